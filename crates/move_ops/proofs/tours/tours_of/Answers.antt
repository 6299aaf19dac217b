-- A route of a plan that passes has current, distinct stops and keeps its limits, so a table can be built of it.
use Rattle.std.proofs.Common.{ℕ, List, [], sym, subst, arith}
use Rattle.route_sched.specs.Route.{AreDistinctStops}
use Rattle.slack_tables.specs.Insertion.{KeepsLimits}
use Rattle.move_ops.proofs.QueryLemmas.{route_once, route_keeps}
use Rattle.move_ops.proofs.tours.tours_of.Goals as goal

pub build-requires-clause-route : goal.build-requires-clause-route
build-requires-clause-route c =
    let p = c.args.problem.now in
    subst (λ (l : List ℕ). AreDistinctStops p l) (sym c.as_slice.ensures)
    (route_once c.passing_is_local.ensures c.plans_are_disjoint_routes.ensures c.feasible_alone_decides_feasibility.ensures p [] c.args.routes.now c.requires
    c.loop-route.route-index c.route-item.result c.route-item.is
    (omega arith))

pub build-requires-clause-limits : goal.build-requires-clause-limits
build-requires-clause-limits c =
    let p = c.args.problem.now in
    subst (λ (l : List ℕ). KeepsLimits p l) (sym c.as_slice.ensures)
    (route_keeps c.passing_is_local.ensures c.plans_are_disjoint_routes.ensures c.feasible_alone_decides_feasibility.ensures p [] c.args.routes.now c.requires
    c.loop-route.route-index c.route-item.result c.route-item.is
    (omega arith) c.problem_keeps_limits.ensures)

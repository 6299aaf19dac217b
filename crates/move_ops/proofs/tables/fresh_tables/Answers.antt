-- A route of a plan that passes has current, distinct stops and keeps its limits, so a table can be built of it.
use Rattle.std.proofs.Common.{rules, ◌≤◌, ◌-◌, ℕ, [], sym, subst, arith}
use Rattle.std.proofs.lemmas.List.Elements.{All-get_or}
use Rattle.plan_types.specs.Instance.{IsInstance}
use Rattle.move_ops.proofs.QueryLemmas.{route_once, route_keeps}
use Rattle.move_ops.proofs.RefreshLemmas.{vehicle_at, fleet_of}
use Rattle.move_ops.proofs.tables.fresh_tables.Goals as goal

pub build-requires-clause-route : goal.build-requires-clause-route
build-requires-clause-route c =
    let p = c.args.problem.now in
    let v = c.from.result in
    let within : (1 ≤ v) × (v ≤ p.fleet) =
    subst (λ (n : ℕ). (1 ≤ n) × (n ≤ p.fleet)) (sym (search rules))
    (All-get_or (λ (n : ℕ). (1 ≤ n) × (n ≤ p.fleet)) c.args.vehicles.now c.loop-vehicle.vehicle-index 0
    (omega arith) c.requires.vehicles) in
    let low = within.0 in
    let fleet = fleet_of c.passing_is_local.ensures p [] c.args.routes.now c.requires.pass in
    route_once c.passing_is_local.ensures c.plans_are_disjoint_routes.ensures c.feasible_alone_decides_feasibility.ensures p [] c.args.routes.now c.requires.pass
    (v - 1) c.route_of-route.result.now
    (vehicle_at c.args.routes.now v c.route_of-route.result.now low (omega arith) c.route_of-route.ensures) (omega arith)

pub build-requires-clause-limits : goal.build-requires-clause-limits
build-requires-clause-limits c =
    let p = c.args.problem.now in
    let valid : IsInstance p = c.problem_keeps_limits.ensures in
    let v = c.from.result in
    let within : (1 ≤ v) × (v ≤ p.fleet) =
    subst (λ (n : ℕ). (1 ≤ n) × (n ≤ p.fleet)) (sym (search rules))
    (All-get_or (λ (n : ℕ). (1 ≤ n) × (n ≤ p.fleet)) c.args.vehicles.now c.loop-vehicle.vehicle-index 0
    (omega arith) c.requires.vehicles) in
    let low = within.0 in
    let fleet = fleet_of c.passing_is_local.ensures p [] c.args.routes.now c.requires.pass in
    route_keeps c.passing_is_local.ensures c.plans_are_disjoint_routes.ensures c.feasible_alone_decides_feasibility.ensures p [] c.args.routes.now c.requires.pass
    (v - 1) c.route_of-route.result.now
    (vehicle_at c.args.routes.now v c.route_of-route.result.now low (omega arith) c.route_of-route.ensures) (omega arith) valid

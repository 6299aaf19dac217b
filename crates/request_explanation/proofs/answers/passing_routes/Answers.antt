-- The stops of a plan that passes are known, and distinct in each route.
use Rattle.std.proofs.Common.{All, sym, subst}
use Rattle.route_sched.specs.Route.{AreDistinctStops}
use Rattle.request_explanation.proofs.answers.passing_routes.Goals as goal

pub returns-clause-once : goal.returns-clause-once
returns-clause-once c =
    let p = c.args.problem.now in
    let passing = (c.passing_is_local.ensures p c.args.pins.now.routes c.args.plan.now.routes).0 c.requires in
    subst (All (AreDistinctStops p)) (sym c.as_slice.ensures) (((c.plans_are_disjoint_routes.ensures p c.args.plan.now.routes).0 passing.plan).0)

-- The job's plan passes, so its routes have current, distinct stops
use Rattle.std.proofs.Common.{ℕ, List, All, sym, subst}
use Rattle.route_sched.specs.Route.{AreDistinctStops}
use Rattle.command_core.proofs.withdraw.remaining_routes.Goals as goal

pub each_remaining_route-requires-clause-distinct : goal.each_remaining_route-requires-clause-distinct
each_remaining_route-requires-clause-distinct c =
    let job = c.job.inside in
    let passing = (c.passing_is_local.ensures job.problem job.pins.routes job.plan.routes).0 c.job.invariant.plan in
    subst (λ (l : List (List ℕ)). All (AreDistinctStops job.problem) l) (sym c.as_slice-2.ensures) (((c.plans_are_disjoint_routes.ensures job.problem job.plan.routes).0 passing.plan).0)

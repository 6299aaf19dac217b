-- A job's plan passes, so its routes have current stops, each once.
use Rattle.std.proofs.Common.{sym, subst, All}
use Rattle.route_sched.specs.Route.{AreDistinctStops}
use Rattle.planner_cli.proofs.timetable.plan_report.Goals as goal

pub plan_text-requires : goal.plan_text-requires
plan_text-requires c =
    let job = c.job.inside in
    let passing = (c.passing_is_local.ensures job.problem job.pins.routes job.plan.routes).0 c.job.invariant.plan in
    subst (All (AreDistinctStops job.problem)) (sym c.as_slice-routes.ensures) (((c.plans_are_disjoint_routes.ensures job.problem job.plan.routes).0 passing.plan).0)

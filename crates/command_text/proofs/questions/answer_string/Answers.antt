-- A job's plan passes the audit, so the stops of its routes are known and distinct.
use Rattle.std.proofs.Common.{sym, subst, All}
use Rattle.route_sched.specs.Route.{AreDistinctStops}
use Rattle.command_text.proofs.questions.answer_string.Goals as goal

pub fleet_timetable-requires : goal.fleet_timetable-requires
fleet_timetable-requires c =
    let job = c.job.inside in
    let passing = (c.passing_is_local.ensures job.problem job.pins.routes job.plan.routes).0 c.job.invariant.plan in
    subst (All (AreDistinctStops job.problem)) (sym c.as_slice-routes.ensures) (((c.plans_are_disjoint_routes.ensures job.problem job.plan.routes).0 passing.plan).0)

pub one_vehicle_timetable-requires : goal.one_vehicle_timetable-requires
one_vehicle_timetable-requires c =
    let job = c.job.inside in
    let passing = (c.passing_is_local.ensures job.problem job.pins.routes job.plan.routes).0 c.job.invariant.plan in
    subst (All (AreDistinctStops job.problem)) (sym c.as_slice-routes.ensures) (((c.plans_are_disjoint_routes.ensures job.problem job.plan.routes).0 passing.plan).0)

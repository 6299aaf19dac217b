-- If the schedule is known, the stops of each route are known and distinct.
use Rattle.std.proofs.Common.{◌∙◌, sym, subst, All}
use Rattle.route_sched.specs.Route.{AreDistinctStops}
use Rattle.plan_explain.proofs.RouteLemmas.{live_driven}
use Rattle.plan_timetable.proofs.solution_timetables.solution_timetable.Goals as goal

pub timetable-requires : goal.timetable-requires
timetable-requires c =
    subst (All (AreDistinctStops c.args.problem.now)) (sym c.as_slice-routes.ensures)
    (live_driven c.args.problem.now c.args.solution.now.routes c.args.solution.now.cost c.args.verdict (sym c.verdict_schedule_is_known.ensures ∙ c.if-verdict_schedule_is_known.true) c.requires)

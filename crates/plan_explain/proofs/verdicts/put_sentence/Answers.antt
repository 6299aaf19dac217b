-- If the rule leaves the schedule known, the stops of the reported route are known and distinct.
use Rattle.std.proofs.Common.{◌≡◌, true, sym, ap, subst}
use Rattle.route_sched.specs.Route.{AreDistinctStops}
use Rattle.rule_violations.specs.KnownSchedule.{schedule_is_known}
use Rattle.plan_explain.proofs.RouteLemmas.{reported_live}
use Rattle.plan_explain.proofs.verdicts.put_sentence.Goals as goal
use Rattle.plan_explain.proofs.verdicts.put_sentence.Goals.{After-reported_route-stops}

reported : (c : After-reported_route-stops) → schedule_is_known c.args.fault.now.rule ≡ true → AreDistinctStops c.args.problem.now c.reported_route-stops.result.now
reported c known =
    subst (AreDistinctStops c.args.problem.now) (sym c.reported_route-stops.ensures)
    (reported_live c.args.problem.now c.args.routes.now c.args.fault.now.route (c.requires known))

pub reported_row-requires : goal.reported_row-requires
reported_row-requires c = reported (goal.at.reported_row-requires c).After-reported_route-stops (ap schedule_is_known c.in-Load.is)

pub reported_row-requires-in-Late : goal.reported_row-requires-in-Late
reported_row-requires-in-Late c = reported (goal.at.reported_row-requires-in-Late c).After-reported_route-stops (ap schedule_is_known c.in-Late.is)

pub put_late_return-requires : goal.put_late_return-requires
put_late_return-requires c = reported (goal.at.put_late_return-requires c).After-reported_route-stops (ap schedule_is_known c.in-LateReturn.is)

pub put_cost-requires : goal.put_cost-requires
put_cost-requires c = c.requires (ap schedule_is_known c.in-PrintedCost.is)

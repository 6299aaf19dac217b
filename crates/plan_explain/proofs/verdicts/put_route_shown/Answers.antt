-- If the schedule is known, the stops of the reported route are known and distinct.
use Rattle.std.proofs.Common.{◌∙◌, sym, subst}
use Rattle.route_sched.specs.Route.{AreDistinctStops}
use Rattle.plan_explain.proofs.RouteLemmas.{reported_live}
use Rattle.plan_explain.proofs.verdicts.put_route_shown.Goals as goal

pub put_table-requires : goal.put_table-requires
put_table-requires c =
    subst (AreDistinctStops c.args.problem.now) (sym c.reported_route-stops.ensures) (reported_live c.args.problem.now c.args.routes.now c.args.route (c.requires (sym c.schedule_is_known.ensures ∙ c.if-schedule_is_known.true)))

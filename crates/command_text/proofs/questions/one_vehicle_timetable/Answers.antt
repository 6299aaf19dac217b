-- The stops of the vehicle's route are known and distinct.
use Rattle.std.proofs.Common.{sym, subst}
use Rattle.route_sched.specs.Route.{AreDistinctStops}
use Rattle.command_text.proofs.RouteLemmas.{vehicle_once}
use Rattle.command_text.proofs.questions.one_vehicle_timetable.Goals as goal

pub vehicle_timetable-requires : goal.vehicle_timetable-requires
vehicle_timetable-requires c = subst (AreDistinctStops c.args.problem.now) (sym c.route_of-route.ensures) (vehicle_once c.args.problem.now c.args.routes.now _ c.requires)

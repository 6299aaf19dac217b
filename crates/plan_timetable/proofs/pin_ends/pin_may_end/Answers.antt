-- The first stops of a route are known and distinct, like all stops of the route.
use Rattle.route_sched.proofs.KnownStops.{front_once}
use Rattle.plan_timetable.proofs.pin_ends.pin_may_end.Goals as goal

pub is_feasible-requires : goal.is_feasible-requires
is_feasible-requires c = front_once c.args.problem.now c.args.route.now c.args.stops c.requires

-- The routes so far, followed by those of the remaining vehicles, are the routes of all vehicles.
use Rattle.std.proofs.Common.{◌≡◌, ◌++◌}
use Rattle.std.specs.Vec.Iter.{into_iter_items}
use Rattle.route_sched.specs.Cost.{used_routes}
use Rattle.vehicle_assignment.specs.Assignments.{fill_empty}
use Rattle.vehicle_assignment.proofs.fill.fill_empty.Given as goal

abbrev pub invariant-loop-seat : goal.invariant-loop-seat
invariant-loop-seat l = l.routes ++ fill_empty (into_iter_items l.seat-iterator) (into_iter_items l.used) ≡ fill_empty l.fn.assigned (used_routes l.fn.remaining)

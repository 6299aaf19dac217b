-- The routes so far, followed by the routes that vehicles with the remaining pins take from the remaining
-- routes, are the routes of all vehicles with pins.
use Rattle.std.proofs.Common.{◌≡◌, ◌+◌, drop}
use Rattle.vehicle_assignment.specs.Assignments.{assign_by_pins}
use Rattle.vehicle_assignment.proofs.AssignLemmas.{with_seats}
use Rattle.vehicle_assignment.proofs.assignment.assign_by_pins.Given as goal

abbrev pub invariant-loop-index : goal.invariant-loop-index
invariant-loop-index l = with_seats l.assigned (assign_by_pins (l.index + 1) (drop l.index l.pins) l.remaining) ≡ assign_by_pins 1 l.pins l.fn.routes

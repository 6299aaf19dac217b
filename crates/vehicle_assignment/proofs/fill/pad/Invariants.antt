-- The counter is the number of routes so far, and padding them up to the fleet always yields the same list.
use Rattle.std.proofs.Common.{◌≡◌, length}
use Rattle.vehicle_assignment.specs.Assignments.{padded}
use Rattle.vehicle_assignment.proofs.fill.pad.Given as goal

abbrev pub invariant-loop : goal.invariant-loop
invariant-loop l = record {
  counted : length l.assigned ≡ l.counter;
  same : padded l.fleet l.assigned ≡ padded l.fleet l.fn.assigned;
}

-- The stops so far are those below the next number.
use Rattle.std.proofs.Common.{◌≡◌}
use Rattle.plan_picture.specs.DrawnStops.{stops_below}
use Rattle.plan_picture.proofs.drawn_stops.stops_in_order.Given as goal

abbrev pub invariant-loop-number : goal.invariant-loop-number
invariant-loop-number l = l.stops.items ≡ stops_below l.problem l.number

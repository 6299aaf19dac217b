-- The stops so far, followed by those of the remaining numbers, are all stops of the route that the problem
-- has.
use Rattle.std.proofs.Common.{◌≡◌, ◌++◌, drop}
use Rattle.plan_picture.specs.DrawnStops.{stops_along}
use Rattle.plan_picture.proofs.drawn_stops.stops_along.Given as goal

abbrev pub invariant-loop-number : goal.invariant-loop-number
invariant-loop-number l = l.stops.items ++ stops_along l.problem (drop l.number-index l.route) ≡ stops_along l.problem l.route

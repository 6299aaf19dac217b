-- The unserved stops so far, followed by those among the remaining stops, are all unserved stops.
use Rattle.std.proofs.Common.{◌≡◌, ◌++◌, drop}
use Rattle.plan_picture.specs.DrawnStops.{unserved}
use Rattle.plan_picture.proofs.drawn_stops.unserved.Given as goal

abbrev pub invariant-loop-stop : goal.invariant-loop-stop
invariant-loop-stop l = l.left.items ++ unserved l.routes (drop l.stop-index l.stops) ≡ unserved l.routes l.stops

-- The remaining stops lead to the same result as all stops.
use Rattle.std.proofs.Common.{◌≡◌, drop}
use Rattle.plan_picture.specs.DrawnStops.{stop_among}
use Rattle.plan_picture.proofs.drawn_stops.stop_among.Given as goal

abbrev pub invariant-loop-stop : goal.invariant-loop-stop
invariant-loop-stop l = stop_among l.number (drop l.stop-index l.stops) ≡ stop_among l.number l.stops

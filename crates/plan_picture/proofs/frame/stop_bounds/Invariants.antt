-- The bounds so far, extended by the remaining stops, are the bounds of all stops.
use Rattle.std.proofs.Common.{◌≡◌, fold, drop}
use Rattle.plan_picture.specs.Frame.{bounds_at, widened}
use Rattle.plan_picture.proofs.frame.stop_bounds.Given as goal

abbrev pub invariant-loop-stop : goal.invariant-loop-stop
invariant-loop-stop l = fold widened l.bounds (drop l.stop-index l.stops) ≡ fold widened (bounds_at l.depot) l.stops

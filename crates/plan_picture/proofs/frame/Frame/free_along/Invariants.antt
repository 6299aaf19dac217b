-- The remaining stops lead to the same result as all stops.
use Rattle.std.proofs.Common.{◌≡◌, drop}
use Rattle.plan_picture.specs.Labels.{free_along}
use Rattle.plan_picture.proofs.frame.Frame.free_along.Given as goal

abbrev pub invariant-loop-stop : goal.invariant-loop-stop
invariant-loop-stop l = free_along l.self l.labels l.extent (drop l.stop-index l.stops) ≡ free_along l.self l.labels l.extent l.stops

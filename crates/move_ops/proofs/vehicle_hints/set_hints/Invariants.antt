-- A number whose hint is still 0 had this hint at first, and it is among the stops exactly if it is among the
-- remaining ones. So at the end it is none of the stops.
use Rattle.std.proofs.Common.{◌≡◌, ℕ, Some, drop, length, slice_get}
use Rattle.plan_audit.specs.Passes.{has}
use Rattle.move_ops.proofs.vehicle_hints.set_hints.Given as goal

abbrev pub invariant-loop-stop : goal.invariant-loop-stop
invariant-loop-stop l = record {
  vehicle_hints : (n : ℕ) → slice_get l.vehicle_hints n ≡ Some 0 → (slice_get l.fn.vehicle_hints n ≡ Some 0) × (has (drop l.stop-index l.stops) n ≡ has l.stops n);
  len : length l.vehicle_hints ≡ length l.fn.vehicle_hints;
}

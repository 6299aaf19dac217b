-- A number has a mark so far, or is among the remaining stops, exactly when it had one before or is among all.
-- So at the end the marks are right.
use Rattle.std.proofs.Common.{◌≡◌, ℕ, ◌<◌, ◌||◌, false, length, drop, get_or}
use Rattle.plan_audit.specs.Passes.{has}
use Rattle.move_ops.proofs.vehicle_hints.mark_stops.Given as goal

abbrev pub invariant-loop-stop : goal.invariant-loop-stop
invariant-loop-stop l = record {
  marked : (n : ℕ) → n < length l.marks → (get_or l.marks n false || has (drop l.stop-index l.stops) n) ≡ (get_or l.fn.marks n false || has l.stops n);
  len : length l.marks ≡ length l.fn.marks;
}

-- No sector so far, after the records, begins with this sequence or a greater one.
use Rattle.std.proofs.Common.{ℕ, ◌<◌, ◌≤◌, ◌+◌}
use Rattle.sector_disk.specs.Image.{sector}
use Rattle.checkpoint.specs.Stores.{leading_number}
use Rattle.checkpoint.proofs.prefix.first_stray_record.Given as goal

abbrev pub invariant-loop-i : goal.invariant-loop-i
invariant-loop-i l = (k : ℕ) → l.used ≤ k → k < l.i → leading_number (sector (2 + k) l.prefix) < l.sequence

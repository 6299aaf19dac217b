-- No record so far is newer than the one before it.
use Rattle.std.proofs.Common.{ℕ, ◌+◌, ◌<◌, ◌≤◌}
use Rattle.sector_disk.specs.Image.{sector}
use Rattle.checkpoint.specs.Stores.{leading_number}
use Rattle.checkpoint.proofs.integrity.are_records_mixed.Given as goal

abbrev pub invariant-loop-i : goal.invariant-loop-i
invariant-loop-i l = (k : ℕ) → k < l.i → leading_number (sector (3 + k) l.prefix) ≤ leading_number (sector (2 + k) l.prefix)

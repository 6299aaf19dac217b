-- Each record sector so far is blank, or a record at its place.
use Rattle.std.proofs.Common.{ℕ, ◌+◌, ◌<◌, ◌≡◌, false}
use Rattle.sector_disk.specs.Image.{sector}
use Rattle.checkpoint.specs.Integrity.{is_blank, IsRecordAt}
use Rattle.checkpoint.proofs.integrity.has_damaged_record.Given as goal

abbrev pub invariant-loop-index : goal.invariant-loop-index
invariant-loop-index l = (k : ℕ) → k < l.index → is_blank (sector (2 + k) l.prefix) ≡ false → ¬ (¬ IsRecordAt k (sector (2 + k) l.prefix))

-- A crash within a write leaves in each of its sectors the old content or the new one, and any combination of
-- them is possible.
use Rattle.sector_disk.proofs.LawProofs.{has_old_or_new}
use Rattle.sector_disk.proofs.laws.a_crash_within_a_write_leaves_old_or_new_sectors.Goals as goal

pub returns : goal.returns
returns c = has_old_or_new

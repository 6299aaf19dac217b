-- Every image that a crash may leave is left by a crash with some choices.
use Rattle.sector_disk.proofs.LawProofs.{has_choices}
use Rattle.sector_disk.proofs.laws.a_crash_can_leave_any_possible_image.Goals as goal

pub returns : goal.returns
returns c = has_choices

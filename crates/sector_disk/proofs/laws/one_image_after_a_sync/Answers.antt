-- After a successful sync, if no write follows, a crash leaves one image: the one that reads return.
use Rattle.sector_disk.proofs.LawProofs.{has_one_image}
use Rattle.sector_disk.proofs.laws.one_image_after_a_sync.Goals as goal

pub returns : goal.returns
returns c = has_one_image

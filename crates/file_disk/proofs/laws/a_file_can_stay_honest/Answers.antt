-- A file is honest if its reads return what the model's device has and do not change after a failed call.
use Rattle.file_disk.proofs.FileLawProofs.{stays_honest}
use Rattle.file_disk.proofs.laws.a_file_can_stay_honest.Goals as goal

pub returns : goal.returns
returns c = stays_honest

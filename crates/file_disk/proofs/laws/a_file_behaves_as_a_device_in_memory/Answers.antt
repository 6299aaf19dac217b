-- After the same writes and syncs, a file and a device in memory read the same, and a crash may leave the same
-- images.
use Rattle.file_disk.proofs.FileLawProofs.{is_as_in_memory}
use Rattle.file_disk.proofs.laws.a_file_behaves_as_a_device_in_memory.Goals as goal

pub returns : goal.returns
returns c = is_as_in_memory

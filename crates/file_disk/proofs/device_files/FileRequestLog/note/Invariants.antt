-- The record has this entry as its newest one.
use Rattle.std.proofs.Common.{◌∷◌}
use Rattle.file_disk.proofs.device_files.FileRequestLog.note.Given as goal

abbrev pub ghost-after : goal.ghost-after
ghost-after a = (a._more.0, a._more.1.now) ∷ a.self.now.value

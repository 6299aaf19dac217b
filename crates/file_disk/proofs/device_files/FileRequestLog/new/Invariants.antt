-- A new record has no request.
use Rattle.std.proofs.Common.{[]}
use Rattle.file_disk.proofs.device_files.FileRequestLog.new.Given as goal

abbrev pub ghost-of : goal.ghost-of
ghost-of a = []

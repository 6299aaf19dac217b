-- A new record has no files.
use Rattle.std.proofs.Common.{[]}
use Rattle.auditor_cli.proofs.file_record.FileRecord.new.Given as goal

abbrev pub ghost-of : goal.ghost-of
ghost-of a = []

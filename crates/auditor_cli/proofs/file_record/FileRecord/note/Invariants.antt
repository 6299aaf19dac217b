-- The record has one more file, as its newest entry.
use Rattle.std.proofs.Common.{◌∷◌}
use Rattle.auditor_cli.specs.FileOutcome.{given}
use Rattle.auditor_cli.proofs.file_record.FileRecord.note.Given as goal

abbrev pub ghost-after : goal.ghost-after
ghost-after a = (a._more.0.now, given a._more.1 a._more.2.now) ∷ a.self.now.value

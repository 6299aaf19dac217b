-- The result that the record of a file holds.
use Rattle.std.specs.Prelude.{ℕ, List, Result, Ok, Err}
use Rattle.std.specs.declared.io.ErrorKind.{ErrorKind}
use Rattle.auditor_cli.specs.declared.file_record.Outcome.{Outcome}
use Rattle.auditor_cli.specs.declared.file_record.Outcome.TheVariants.{Done, Failed}

-- The result of reading or making a file: the bytes read or written, or the kind of the error.
abbrev pub given : Outcome → List ℕ → Result (List ℕ) ErrorKind
given Done text = Ok text
given (Failed kind) text = Err kind

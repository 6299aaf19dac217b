-- The lines that the program prints, and the status that goes with each. The contents of the output are `before`
-- and `after`.
use Rattle.std.specs.Prelude.{◌≡◌, ℕ, List, ◌++◌, codes, Option, Result, Ok, Err, IfOk, Bool, true, false, if◌then◌else◌}
use Rattle.std.specs.Io.KnownBytes.{Appends}
use Rattle.std.specs.declared.io.ErrorKind.{ErrorKind}
use Rattle.std.specs.declared.io.ErrorKind.TheVariants as kind
use Rattle.std.specs.declared.alloc.AllocError.{AllocError}
use Rattle.text_lines.specs.Lines.{with_line_feed}
use Rattle.instance_read.specs.declared.formats.Format.{Format}
use Rattle.auditor_cli.specs.Answer.{IsAnswer}
use Rattle.auditor_cli.specs.declared.answer.AuditAnswer.{AuditAnswer}

-- `out of memory` was appended to the output, and the status is 4.
abbrev pub PrintsOutOfMemory : Option (List ℕ) → Option (List ℕ) → ℕ → Type 0
PrintsOutOfMemory before after status = (status ≡ 4) × Appends before after (with_line_feed (codes "out of memory"))

-- The error is that an allocation failed.
abbrev pub is_out_of_memory : ErrorKind → Bool
is_out_of_memory kind.OutOfMemory = true
is_out_of_memory _ = false

-- The line for a file that can't be read or written, by the verb for it: `cannot VERB PATH`, or `out of memory`.
abbrev pub failed_line : List ℕ → List ℕ → ErrorKind → List ℕ
failed_line verb path kind = if is_out_of_memory kind then with_line_feed (codes "out of memory") else with_line_feed (codes "cannot " ++ verb ++ codes " " ++ path)

-- The line for a file that can't be read: `cannot read PATH`, or `out of memory`.
abbrev pub read_failure_line : List ℕ → ErrorKind → List ℕ
read_failure_line path kind = if is_out_of_memory kind then with_line_feed (codes "out of memory") else with_line_feed (codes "cannot read " ++ path)

-- The status for a file that can't be read: 3, or 4 if memory ran out.
abbrev pub read_failure_status : ErrorKind → ℕ
read_failure_status kind = if is_out_of_memory kind then 4 else 3

-- The line for a file that can't be read was appended to the output, with its status.
abbrev pub PrintsReadFailure : List ℕ → ErrorKind → Option (List ℕ) → Option (List ℕ) → ℕ → Type 0
PrintsReadFailure path kind before after status = (status ≡ read_failure_status kind) × Appends before after (read_failure_line path kind)

-- The error is that something already exists at the path of a new file.
abbrev pub already_exists : ErrorKind → Bool
already_exists kind.AlreadyExists = true
already_exists _ = false

-- The line for a file that can't be made: `there already`, `cannot write PATH`, or `out of memory`.
abbrev pub write_failure_line : List ℕ → ErrorKind → List ℕ
write_failure_line path kind =
    if already_exists kind then with_line_feed (codes "there already") else (if is_out_of_memory kind then with_line_feed (codes "out of memory") else with_line_feed (codes "cannot write " ++ path))

-- The status for a file that can't be made: 3, or 4 if memory ran out.
abbrev pub write_failure_status : ErrorKind → ℕ
write_failure_status kind = if already_exists kind then 3 else (if is_out_of_memory kind then 4 else 3)

-- The line for a file that can't be made was appended to the output, with its status.
abbrev pub PrintsWriteFailure : List ℕ → ErrorKind → Option (List ℕ) → Option (List ℕ) → ℕ → Type 0
PrintsWriteFailure path kind before after status = (status ≡ write_failure_status kind) × Appends before after (write_failure_line path kind)

-- The output for an answer: its line, or `out of memory`.
abbrev pub answer_line : {E : Type 0} → Result AuditAnswer E → List ℕ
answer_line (Ok answer) = with_line_feed answer.line
answer_line (Err e) = with_line_feed (codes "out of memory")

-- The exit status for an answer: its own, or 4 if memory ran out.
abbrev pub answer_status : {E : Type 0} → Result AuditAnswer E → ℕ
answer_status (Ok answer) = answer.status
answer_status (Err e) = 4

-- The line of the answer, or `out of memory`, was appended to the output, with its status.
abbrev pub PrintsAnswer : {E : Type 0} → Result AuditAnswer E → Option (List ℕ) → Option (List ℕ) → ℕ → Type 0
PrintsAnswer answer before after status = (status ≡ answer_status answer) × Appends before after (answer_line answer)

-- The built-in instance: one pickup and its delivery, in Li and Lim's format.
abbrev pub example_instance : List ℕ
example_instance = codes "2 10 1\n0 0 0 0 0 100 0 0 0\n1 3 4 4 0 50 2 0 2\n2 6 8 -4 0 60 2 1 0\n"

-- The built-in solution, which passes.
abbrev pub example_solution : List ℕ
example_solution = codes "Route #1: 1 2\nCost 20\n"

-- The answer to the audit of two texts, or `out of memory`, was appended to the output.
abbrev pub PrintsAudit : Format → List ℕ → List ℕ → Option (List ℕ) → Option (List ℕ) → ℕ → Type 0
PrintsAudit format instance solution before after status =
    (answer : Result AuditAnswer AllocError) × IfOk answer (IsAnswer format instance solution) × PrintsAnswer answer before after status

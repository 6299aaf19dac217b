-- The lines that are printed for two files. The list of the files that were read, newest first, is `was` before
-- and `now` afterwards. The contents of the output are `before` and `after`.
use Rattle.std.specs.Prelude.{◌≡◌, ◌⊎◌, ℕ, Bool, List, ◌∷◌, Option, Result, Ok, Err, IfOk}
use Rattle.std.specs.Io.KnownBytes.{Appends}
use Rattle.std.specs.declared.alloc.AllocError.{AllocError}
use Rattle.std.specs.declared.io.ErrorKind.{ErrorKind}
use Rattle.instance_read.specs.declared.formats.Format.{Format}
use Rattle.auditor_cli.specs.Answer.{IsAnswerBy}
use Rattle.auditor_cli.specs.Reads.{FileRead}
use Rattle.auditor_cli.specs.Messages.{answer_line, answer_status, read_failure_line, read_failure_status}
use Rattle.auditor_cli.specs.declared.answer.AuditAnswer.{AuditAnswer}

-- The printed line and the status for two texts, if `IsAnswered` relates the texts to their answer.
abbrev pub IsPrintedForTextsBy : (List ℕ → List ℕ → AuditAnswer → Type 0) → List ℕ → List ℕ → List ℕ → ℕ → Type 0
IsPrintedForTextsBy IsAnswered instance solution text status =
    (answer : Result AuditAnswer AllocError) × IfOk answer (IsAnswered instance solution) × (text ≡ answer_line answer) × (status ≡ answer_status answer)

-- The line for two texts was appended to the output.
abbrev pub PrintsTextsBy : (List ℕ → List ℕ → AuditAnswer → Type 0) → List ℕ → List ℕ → Option (List ℕ) → Option (List ℕ) → ℕ → Type 0
PrintsTextsBy IsAnswered instance solution before after status =
    (text : List ℕ) × IsPrintedForTextsBy IsAnswered instance solution text status × Appends before after text

-- Both files were read, the instance first. Their texts are x and y.
abbrev pub AreBothRead : List ℕ → List ℕ → List ℕ → List ℕ → List FileRead → List FileRead → Type 0
AreBothRead instance solution x y was now = now ≡ (solution, Ok y) ∷ (instance, Ok x) ∷ was

-- The file at this path can't be read. It is the instance, or the solution after the instance was read, and no
-- file was read after it.
abbrev pub IsUnread : List ℕ → List ℕ → List ℕ → ErrorKind → List FileRead → List FileRead → Type 0
IsUnread instance solution path kind was now =
    ((path ≡ instance) × (now ≡ (instance, Err kind) ∷ was))
    ⊎ ((path ≡ solution) × ((x : List ℕ) × (now ≡ (solution, Err kind) ∷ (instance, Ok x) ∷ was)))

-- Both files were read once, the instance first; or one can't be read, and no file was read after it.
abbrev pub AreReadInTurn : List ℕ → List ℕ → List FileRead → List FileRead → Type 0
AreReadInTurn instance solution was now =
    ((x : List ℕ) × (y : List ℕ) × AreBothRead instance solution x y was now) ⊎ ((path : List ℕ) × (kind : ErrorKind) × IsUnread instance solution path kind was now)

-- The printed line and the status for two files: those for their texts, or those for the file that can't be
-- read.
abbrev pub IsPrintedForFilesBy : (List ℕ → List ℕ → AuditAnswer → Type 0) → List ℕ → List ℕ → List FileRead → List FileRead → List ℕ → ℕ → Type 0
IsPrintedForFilesBy IsAnswered instance solution was now text status =
    ((x : List ℕ) × (y : List ℕ) × AreBothRead instance solution x y was now × IsPrintedForTextsBy IsAnswered x y text status)
    ⊎ ((path : List ℕ) × (error : ErrorKind) × IsUnread instance solution path error was now × (text ≡ read_failure_line path error) × (status ≡ read_failure_status error))

-- The line for two files was appended to the output.
abbrev pub PrintsFilesBy : (List ℕ → List ℕ → AuditAnswer → Type 0) → List ℕ → List ℕ → List FileRead → List FileRead → Option (List ℕ) → Option (List ℕ) → ℕ → Type 0
PrintsFilesBy IsAnswered instance solution was now before after status =
    (text : List ℕ) × IsPrintedForFilesBy IsAnswered instance solution was now text status × Appends before after text

-- The line and the status of `audit` for two files, for the solution or only for its routes.
abbrev pub IsPrintedForFiles : Bool → Format → List ℕ → List ℕ → List FileRead → List FileRead → List ℕ → ℕ → Type 0
IsPrintedForFiles routes_alone k instance solution was now text status =
    IsPrintedForFilesBy (IsAnswerBy routes_alone k) instance solution was now text status

-- The line of `audit` for two files was appended to the output.
abbrev pub PrintsFiles : Bool → Format → List ℕ → List ℕ → List FileRead → List FileRead → Option (List ℕ) → Option (List ℕ) → ℕ → Type 0
PrintsFiles routes_alone k instance solution was now before after status =
    PrintsFilesBy (IsAnswerBy routes_alone k) instance solution was now before after status

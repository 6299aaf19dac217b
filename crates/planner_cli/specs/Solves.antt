-- The subcommand `solves`: what it prints for a list of instances, each solved into a file of its own. `was` and
-- `now` are the effects before and afterwards, `made` and `left` the files written before and afterwards.
use Rattle.std.specs.Prelude.{◌≡◌, ◌≤◌, ◌⊎◌, ℕ, List, [], ◌∷◌, Option, None, Some, Result, Ok, Err, IfOk, MatchResult}
use Rattle.std.specs.Io.KnownBytes.{Appends}
use Rattle.std.specs.declared.io.ErrorKind.{ErrorKind}
use Rattle.plan_solve.specs.Solved.{Fails, IsSolved}
use Rattle.plan_solve.specs.declared.faults.SolveFault.{SolveFault}
use Rattle.plan_solve.specs.declared.faults.SolveFault.TheVariants as fault
use Rattle.plan_solve.specs.declared.solver.SolvedPlan.{SolvedPlan}
use Rattle.command_line.specs.Invocations.{SolvesArgsValue}
use Rattle.command_text.specs.Answers.{line}
use Rattle.auditor_cli.specs.Answer.{IsAnswer}
use Rattle.auditor_cli.specs.IgnoredLines.{ignored_limit_note}
use Rattle.auditor_cli.specs.Audits.{IsBadLine, IsPair, PrintsListBy, pair_text}
use Rattle.auditor_cli.specs.Reads.{FileRead, FileWrite, IsGrown}
use Rattle.instance_read.specs.declared.formats.Format.{Format}
use Rattle.planner_cli.specs.Solve.{fault_line, fault_status, unplanned_line}
use Rattle.auditor_cli.specs.Messages.{read_failure_line, read_failure_status, write_failure_line, write_failure_status}
use Rattle.auditor_cli.specs.declared.answer.AuditAnswer.{AuditAnswer}

-- The effects so far: the files that were read and those that were to be made, both with the newest first, and
-- the content of standard error, if it is known.
pub record FileEffects : Type 0 where
  pub reads : List FileRead
  pub writes : List FileWrite
  pub errors : Option (List ℕ)

-- The effects that the ghost members of the types `F`, `N` and `E` record: of the reader of files, of the maker
-- of files, and of standard error.
abbrev pub file_effects : {F N E : Type 0} → (F → List FileRead) → (N → List FileWrite) → (E → Option (List ℕ)) → F → N → E → FileEffects
file_effects reads writes reported files new_files errors = record { reads = reads files; writes = writes new_files; errors = reported errors }

-- The effects after one more file was read.
abbrev pub with_read : FileRead → FileEffects → FileEffects
with_read read was = record { reads = read ∷ was.reads; writes = was.writes; errors = was.errors }

-- `found` is the result of solving the instance in `text`. The progress lines are discarded.
pub record Finds (tasks : SolvesArgsValue) (text : List ℕ) (found : Result SolvedPlan SolveFault) : Type 0 where
  pub before : Option (List ℕ)
  pub later : Option (List ℕ)
  pub solves : MatchResult found (IsSolved tasks.format text tasks.seed tasks.steps None before later) (Fails tasks.format text before later)

-- ---- The plan that was found is written

-- Nothing was written: no plan was found, or there was no memory for its audit.
pub record IsFailed (f : SolveFault) (made left : List FileWrite) (reported : List ℕ) (status : ℕ) : Type 0 where
  pub same : left ≡ made
  pub line : reported ≡ fault_line f
  pub status_is : status ≡ fault_status f

-- No new file could be made at the path, and the line says so.
pub record IsWriteFailure (path : List ℕ) (made left : List FileWrite) (reported : List ℕ) (status : ℕ) : Type 0 where
  pub error : ErrorKind
  pub noted : left ≡ (path, Err error) ∷ made
  pub line : reported ≡ write_failure_line path error
  pub status_is : status ≡ write_failure_status error

-- The line for a plan that is written: the audit of its text if it serves every request, and otherwise the
-- requests that it leaves out.
abbrev pub IsPlanLine : Format → List ℕ → List ℕ → List ℕ → List ℕ → ℕ → Type 0
IsPlanLine k x text [] reported status = (answer : AuditAnswer) × IsAnswer k x text answer × (reported ≡ line answer.line) × (status ≡ answer.status)
IsPlanLine k x text (name ∷ names) reported status = (reported ≡ unplanned_line (name ∷ names)) × (status ≡ 1)

-- The text of the plan was written to the file, exactly as `solve` prints it.
pub record IsWritten (k : Format) (x path : List ℕ) (solved : SolvedPlan) (made left : List FileWrite) (reported : List ℕ) (status : ℕ) : Type 0 where
  pub noted : left ≡ (path, Ok solved.text.items) ∷ made
  pub plan : IsPlanLine k x solved.text.items solved.unplanned.items reported status

-- The result of solving was written to the file; or the line says why there is no plan or no file.
abbrev pub IsPlaced : Format → List ℕ → List ℕ → Result SolvedPlan SolveFault → List FileWrite → List FileWrite → List ℕ → ℕ → Type 0
IsPlaced k x path (Err f) made left reported status = IsFailed f made left reported status
IsPlaced k x path (Ok solved) made left reported status =
    IsWritten k x path solved made left reported status ⊎ (IsWriteFailure path made left reported status ⊎ IsFailed fault.OutOfMemory made left reported status)

-- ---- An instance and the path of its solution

-- The instance can't be read, and nothing was written.
pub record IsReadFailure (path : List ℕ) (was now : FileEffects) (reported : List ℕ) (status : ℕ) : Type 0 where
  pub error : ErrorKind
  pub noted : now.reads ≡ (path, Err error) ∷ was.reads
  pub same : now.writes ≡ was.writes
  pub silent : now.errors ≡ was.errors
  pub line : reported ≡ read_failure_line path error
  pub status_is : status ≡ read_failure_status error

-- The instance was read and solved, and the result was written. If the instance names a limit that is ignored,
-- this is printed on standard error.
pub record IsSolvedInto (tasks : SolvesArgsValue) (instance path : List ℕ) (was now : FileEffects) (reported : List ℕ) (status : ℕ) : Type 0 where
  pub x : List ℕ
  pub noted : now.reads ≡ (instance, Ok x) ∷ was.reads
  pub limit : Appends was.errors now.errors (ignored_limit_note tasks.format instance x)
  pub found : Result SolvedPlan SolveFault
  pub finds : Finds tasks x found
  pub placed : IsPlaced tasks.format x path found was.writes now.writes reported status

-- A check beforehand found that no new file can be made at the path, so the instance was not read.
pub record IsSkipped (path : List ℕ) (was now : FileEffects) (reported : List ℕ) (status : ℕ) : Type 0 where
  pub same : now.reads ≡ was.reads
  pub silent : now.errors ≡ was.errors
  pub unwritten : IsWriteFailure path was.writes now.writes reported status

-- The result for one instance and the path of its solution: skipped, not read, or solved.
abbrev pub IsTaskLine : SolvesArgsValue → List ℕ → List ℕ → FileEffects → FileEffects → List ℕ → ℕ → Type 0
IsTaskLine tasks instance path was now reported status =
    IsSkipped path was now reported status ⊎ (IsReadFailure instance was now reported status ⊎ IsSolvedInto tasks instance path was now reported status)

-- ---- The list

-- The output for a line of the list that names two paths: both paths and the result, separated by tabs.
pub record IsPairLine (tasks : SolvesArgsValue) (l : List ℕ) (was now : FileEffects) (text : List ℕ) (status : ℕ) : Type 0 where
  pub instance : List ℕ
  pub path : List ℕ
  pub pair : IsPair l instance path
  pub reported : List ℕ
  pub does : IsTaskLine tasks instance path was now reported status
  pub text_is : text ≡ pair_text instance path reported

-- The output for any line of the list: the two paths and the result, or `bad line` if it does not name two paths.
abbrev pub IsSolvedLine : SolvesArgsValue → List ℕ → FileEffects → FileEffects → List ℕ → ℕ → Type 0
IsSolvedLine tasks l was now text status = IsPairLine tasks l was now text status ⊎ IsBadLine l was now text status

-- The lines of the list were processed in order and their results printed; or a line says that the list can't be
-- read.
abbrev pub SolvesList : SolvesArgsValue → FileEffects → FileEffects → Option (List ℕ) → Option (List ℕ) → ℕ → Type 0
SolvesList tasks was now before after status = PrintsListBy (IsSolvedLine tasks) with_read tasks.list was now before after status

-- ---- The guarantees of the functions

-- Both lists of files are as before, or have new entries at the front.
abbrev pub AreGrown : FileEffects → FileEffects → Type 0
AreGrown was now = IsGrown was.reads now.reads × IsGrown was.writes now.writes

-- The guarantee of a function, whatever it returns: `AreKept` holds for the effects before and afterwards. If it
-- returned a status, `Reports` holds for what it printed.
pub record Ends {S E : Type 0} (AreKept : S → S → Type 0) (Reports : S → S → Option (List ℕ) → Option (List ℕ) → ℕ → Type 0)
    (was now : S) (before after : Option (List ℕ)) (result : Result ℕ E) : Type 0 where
  pub kept : AreKept was now
  pub reported : IfOk result (Reports was now before after)

-- The audit of a plan's text, or `None` exactly if the plan leaves requests out.
abbrev pub IsAuditOf : Format → List ℕ → List ℕ → List ℕ → Option AuditAnswer → Type 0
IsAuditOf k x text [] (Some answer) = IsAnswer k x text answer
IsAuditOf k x text [] None = ⊥
IsAuditOf k x text (name ∷ names) (Some answer) = ⊥
IsAuditOf k x text (name ∷ names) None = Unit {0}

-- The exit status of the audit, if there is an audit, is 0, 1 or 2.
abbrev pub HasStatus : Option AuditAnswer → Type 0
HasStatus None = Unit {0}
HasStatus (Some answer) = answer.status ≤ 2

-- The line of the audit is printed or, if there is no audit, the requests that the plan leaves out.
abbrev pub PrintsPlaced : Option AuditAnswer → List ℕ → Option (List ℕ) → Option (List ℕ) → ℕ → Type 0
PrintsPlaced (Some answer) names before after status = (status ≡ answer.status) × Appends before after (line answer.line)
PrintsPlaced None names before after status = (status ≡ 1) × Appends before after (unplanned_line names)

-- The result of solving is written as `IsPlaced` says, and its line is printed.
abbrev pub Places : Format → List ℕ → List ℕ → Result SolvedPlan SolveFault → List FileWrite → List FileWrite → Option (List ℕ) → Option (List ℕ) → ℕ → Type 0
Places k x path found made left before after status = (reported : List ℕ) × IsPlaced k x path found made left reported status × Appends before after reported

-- A plan with this audit is written, and its line is printed.
abbrev pub PlacesAudited : List ℕ → SolvedPlan → Option AuditAnswer → List FileWrite → List FileWrite → Option (List ℕ) → Option (List ℕ) → ℕ → Type 0
PlacesAudited path solved audited made left before after status =
    (k : Format) (x : List ℕ) → IsAuditOf k x solved.text.items solved.unplanned.items audited → Places k x path (Ok solved) made left before after status

-- The result for one instance and the path of its solution is printed.
abbrev pub PrintsTask : SolvesArgsValue → List ℕ → List ℕ → FileEffects → FileEffects → Option (List ℕ) → Option (List ℕ) → ℕ → Type 0
PrintsTask tasks instance path was now before after status = (reported : List ℕ) × IsTaskLine tasks instance path was now reported status × Appends before after reported

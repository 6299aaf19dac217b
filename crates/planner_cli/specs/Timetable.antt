-- The subcommand `timetable`: what it prints for a solution, or for the plan in a store.
use Rattle.std.specs.Prelude.{◌≡◌, ◌⊎◌, ℕ, Bool, true, false, List, [], codes, string_bytes, Option, Result, Ok, Err, IfOk}
use Rattle.std.specs.Io.KnownBytes.{Appends}
use Rattle.std.specs.declared.alloc.AllocError.{AllocError}
use Rattle.plan_types.specs.Instance.{Instance}
use Rattle.route_sched.specs.Cost.{cost_of}
use Rattle.plan_audit.specs.declared.rules.Verdict.{Verdict}
use Rattle.plan_timetable.specs.Timetable.{solution_timetable_text, timetable_text}
use Rattle.plan_timetable.specs.declared.forms.Form.{Form}
use Rattle.plan_timetable.specs.declared.forms.Form.TheVariants.{Columns, Tabs}
use Rattle.seeded_search.specs.Steps.{unplanned_names}
use Rattle.command_types.specs.Job.{JobValue}
use Rattle.command_types.specs.declared.states.State.{State}
use Rattle.command_types.specs.declared.states.State.TheVariants.{Empty, Loaded}
use Rattle.command_text.specs.Answers.{line}
use Rattle.auditor_cli.specs.AnswerText.{planned_text}
use Rattle.auditor_cli.specs.Examination.{answer_of}
use Rattle.auditor_cli.specs.Explain.{PrintsExplanationResult, PrintsUnreadFile, answer_and_text}
use Rattle.auditor_cli.specs.Partial.{IsPlanAnswer, IsPlanExamined, partial_answer}
use Rattle.auditor_cli.specs.Messages.{PrintsOutOfMemory}
use Rattle.auditor_cli.specs.Files.{AreBothRead}
use Rattle.auditor_cli.specs.Reads.{FileRead}
use Rattle.instance_read.specs.declared.formats.Format.{Format}
use Rattle.planner_cli.specs.ReadOnly.{OpensReadOnly}
use Rattle.planner_cli.specs.Solve.{left_out_text}
use Rattle.planner_cli.specs.declared.timetable.TimetableReport.{TimetableReport}
use Rattle.planner_cli.specs.Opening.{PrintsOpenFailure}
use Rattle.auditor_cli.specs.declared.audit.Examination.{Examination}
use Rattle.auditor_cli.specs.declared.audit.Examination.TheVariants.{BadCost, BadInstance, BadSolution, Judged}
use Rattle.auditor_cli.specs.declared.explain.Explanation.{Explanation}
use Rattle.auditor_cli.specs.declared.partial.PartialPlan.{PartialPlan}
use Rattle.auditor_cli.specs.declared.partial.PlanExamination.{PlanExamination}
use Rattle.auditor_cli.specs.declared.partial.PlanExamination.TheVariants.{Partial, Whole}
use Rattle.sector_disk.specs.declared.sectors.Sectors as sectors

-- The form of a timetable: fields between tabs, for programs, or columns, for people.
abbrev pub form_of : Bool → Form
form_of true = Tabs
form_of false = Columns

-- The text of the timetable of routes with pins. It also lists each request that is in no route.
abbrev pub plan_text : Form → Instance → List (List ℕ) → List (List ℕ) → List ℕ
plan_text form p pins routes = timetable_text form p pins routes (unplanned_names p routes)

-- The text of the timetable of a solution's routes with their verdict. It also lists each request that is in no
-- route.
abbrev pub solution_text : Form → Instance → List (List ℕ) → Verdict → List ℕ
solution_text form p routes verdict = solution_timetable_text form p routes (unplanned_names p routes) verdict

-- The text of the timetable of two examined files. It is empty if one of them is refused.
abbrev pub IsTimetableOf : Form → Examination → List ℕ → Type 0
IsTimetableOf form (BadInstance fault) text = text ≡ []
IsTimetableOf form (BadSolution fault) text = text ≡ []
IsTimetableOf form (BadCost problem routes fault) text = text ≡ []
IsTimetableOf form (Judged problem plan verdict) text = text ≡ solution_text form problem plan.routes verdict

-- The report on two examined files: the answer of the audit and the timetable. It names no request as left out.
pub record IsWholeReport (form : Form) (examined : Examination) (reported : TimetableReport) : Type 0 where
  pub answers : reported.explanation.answer ≡ answer_of examined
  pub tells : IsTimetableOf form examined (string_bytes reported.explanation.text)
  pub none_left : reported.left_out.items ≡ []

-- The report on a partial plan: its own answer, the timetable, and the requests that are left out.
pub record IsPartialReport (form : Form) (partial : PartialPlan) (reported : TimetableReport) : Type 0 where
  pub answers : reported.explanation.answer ≡ partial_answer partial.cost
  pub tells : string_bytes reported.explanation.text ≡ plan_text form partial.problem [] partial.plan.routes
  pub left : reported.left_out.items ≡ unplanned_names partial.problem partial.plan.routes

-- The report on two files, of which the second may be a partial plan.
abbrev pub IsReport : Form → PlanExamination → TimetableReport → Type 0
IsReport form (Whole examined) reported = IsWholeReport form examined reported
IsReport form (Partial partial) reported = IsPartialReport form partial reported

-- The report on the instance and the solution in two texts.
pub record IsTimetable (format : Format) (form : Form) (instance solution : List ℕ) (reported : TimetableReport) : Type 0 where
  pub examined : PlanExamination
  pub is_examined : IsPlanExamined format instance solution examined
  pub tells : IsReport form examined reported

-- The answer and the timetable are written to the output, and the requests that are left out to standard error;
-- or memory ran out.
abbrev pub PrintsReport : {E : Type 0} → Result TimetableReport E → Option (List ℕ) → Option (List ℕ) → Option (List ℕ) → Option (List ℕ) → ℕ → Type 0
PrintsReport (Ok reported) before after errors later status =
    (status ≡ reported.explanation.answer.status) × Appends before after (answer_and_text reported.explanation) × Appends errors later (left_out_text reported.left_out.items)
PrintsReport (Err e) before after errors later status = PrintsOutOfMemory before after status × Appends errors later []

-- Both files were read. The answer is that of their audit, or the answer for a partial plan.
pub record TimetablesBothRead (k : Format) (form : Form) (instance solution : List ℕ) (was now : List FileRead) (before after errors later : Option (List ℕ)) (status : ℕ) : Type 0 where
  pub x : List ℕ
  pub y : List ℕ
  pub read : AreBothRead instance solution x y was now
  pub made : Result TimetableReport AllocError
  pub answers : IfOk made (λ reported. IsPlanAnswer k x y reported.explanation.answer)
  pub tells : IfOk made (IsTimetable k form x y)
  pub reported : PrintsReport made before after errors later status

-- The timetable of two files; or one of the files can't be read.
abbrev pub TimetablesFiles : Format → Form → List ℕ → List ℕ → List FileRead → List FileRead → Option (List ℕ) → Option (List ℕ) → Option (List ℕ) → Option (List ℕ) → ℕ → Type 0
TimetablesFiles k form instance solution was now before after errors later status =
    TimetablesBothRead k form instance solution was now before after errors later status
    ⊎ (PrintsUnreadFile instance solution was now before after status × Appends errors later [])

-- The report on a job's plan, which passes or is partial: the line with its cost, status 0, and its timetable.
pub record IsPlanReport (form : Form) (job : JobValue) (reported : Explanation) : Type 0 where
  pub answers : reported.answer ≡ record { line = planned_text (cost_of job.problem job.plan); status = 0 }
  pub tells : string_bytes reported.text ≡ plan_text form job.problem job.pins job.plan

-- The timetable of a state's plan is printed, or `no NoInstance` with status 2 if nothing is loaded.
abbrev pub PrintsStateTimetable : Form → State → Option (List ℕ) → Option (List ℕ) → ℕ → Type 0
PrintsStateTimetable form Empty before after status = (status ≡ 2) × Appends before after (line (codes "no NoInstance"))
PrintsStateTimetable form (Loaded job) before after status = (made : Result Explanation AllocError) × IfOk made (IsPlanReport form job) × PrintsExplanationResult made before after status

-- The store in the file is opened for reading only, and the timetable of its plan is printed, or the reason why
-- there is none. `IsShared` says what is known about the device over the file.
abbrev pub TimetablesStore : {D : Type 0} → sectors.Ghosts D → (List ℕ → D → Type 0) → List ℕ → Form → Option (List ℕ) → Option (List ℕ) → ℕ → Type 0
TimetablesStore {D} on IsShared path form before after status =
    OpensReadOnly on IsShared path (λ looked. PrintsStateTimetable form looked.state before after status) (λ unopened. PrintsOpenFailure path unopened before after status)

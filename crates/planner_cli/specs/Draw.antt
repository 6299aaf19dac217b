-- The subcommand `draw`: what it prints.
use Rattle.std.specs.Prelude.{◌≡◌, ◌⊎◌, ◌+◌, ◌==◌, ℕ, if◌then◌else◌, List, [], ◌∷◌, codes, length, take, Option, Some, None, Result, Ok, Err, IfOk}
use Rattle.std.specs.Io.KnownBytes.{Appends}
use Rattle.std.specs.declared.alloc.AllocError.{AllocError}
use Rattle.std.specs.declared.io.ErrorKind.{ErrorKind}
use Rattle.plan_types.specs.Instance.{Instance}
use Rattle.plan_audit.specs.declared.rules.Verdict.{Verdict}
use Rattle.plan_audit.specs.declared.rules.Verdict.TheVariants.{Pass}
use Rattle.plan_picture.specs.Picture.{picture, route_picture}
use Rattle.route_sched.specs.Cost.{cost_of}
use Rattle.command_types.specs.Job.{JobValue}
use Rattle.command_types.specs.declared.states.State.{State}
use Rattle.command_types.specs.declared.states.State.TheVariants.{Empty, Loaded}
use Rattle.auditor_cli.specs.Examination.{answer_of}
use Rattle.auditor_cli.specs.Files.{AreBothRead, IsUnread}
use Rattle.auditor_cli.specs.Reads.{FileRead}
use Rattle.command_text.specs.Answers.{line}
use Rattle.instance_read.specs.declared.formats.Format.{Format}
use Rattle.planner_cli.specs.ReadOnly.{OpensReadOnly}
use Rattle.planner_cli.specs.Opening.{MayAnnounceReplay, PrintsOpenFailure}
use Rattle.auditor_cli.specs.Messages.{PrintsReadFailure}
use Rattle.auditor_cli.specs.Partial.{IsPlanExamined}
use Rattle.auditor_cli.specs.declared.audit.Examination.{Examination}
use Rattle.auditor_cli.specs.declared.audit.Examination.TheVariants.{BadCost, BadInstance, BadSolution, Judged}
use Rattle.auditor_cli.specs.declared.partial.PartialPlan.{PartialPlan}
use Rattle.auditor_cli.specs.declared.partial.PlanExamination.{PlanExamination}
use Rattle.auditor_cli.specs.declared.partial.PlanExamination.TheVariants as plan
use Rattle.seeded_search.specs.Steps.{unplanned_names}
use Rattle.planner_cli.specs.Solve.{left_out_text}
use Rattle.planner_cli.specs.declared.draw.Drawing.{Drawing}
use Rattle.planner_cli.specs.declared.draw.Drawing.TheVariants.{NoSuchRoute, Partial, Picture, Refused}
use Rattle.sector_disk.specs.declared.sectors.Sectors as sectors

-- The picture of all routes, with their verdict, or of the route with this number, counted from 1; or there is no
-- such route.
abbrev pub IsPictureOf : Option ℕ → Instance → List (List ℕ) → Verdict → Drawing → Type 0
IsPictureOf None p routes verdict (Picture svg) = svg.items ≡ picture p routes verdict
IsPictureOf (Some number) p routes verdict (Picture svg) = Some svg.items ≡ route_picture p routes verdict number
IsPictureOf (Some number) p routes verdict NoSuchRoute = None ≡ route_picture p routes verdict number
IsPictureOf _ p routes verdict drawing = ⊥

-- The picture of the solution with the verdict on it, or the answer of the audit if one of the files is refused.
abbrev pub IsDrawingOf : Option ℕ → Examination → Drawing → Type 0
IsDrawingOf route (BadInstance fault) drawing = drawing ≡ Refused (answer_of (BadInstance fault))
IsDrawingOf route (BadSolution fault) drawing = drawing ≡ Refused (answer_of (BadSolution fault))
IsDrawingOf route (BadCost problem routes fault) drawing = drawing ≡ Refused (answer_of (BadCost problem routes fault))
IsDrawingOf route (Judged problem plan verdict) drawing = IsPictureOf route problem plan.routes verdict drawing

-- The picture of a partial plan or of one of its routes, and the requests that the plan leaves out.
abbrev pub IsPartialDrawing : Option ℕ → PartialPlan → Drawing → Type 0
IsPartialDrawing route partial (Partial svg left_out) =
    IsPictureOf route partial.problem partial.plan.routes (Pass partial.cost) (Picture svg) × (left_out.items ≡ unplanned_names partial.problem partial.plan.routes)
IsPartialDrawing route partial NoSuchRoute = IsPictureOf route partial.problem partial.plan.routes (Pass partial.cost) NoSuchRoute
IsPartialDrawing route partial _ = ⊥

-- The drawing of two examined files, of which the second may be a partial plan.
abbrev pub IsPlanDrawing : Option ℕ → PlanExamination → Drawing → Type 0
IsPlanDrawing route (plan.Whole examined) drawing = IsDrawingOf route examined drawing
IsPlanDrawing route (plan.Partial partial) drawing = IsPartialDrawing route partial drawing

-- The result of drawing the solution in two texts, or one of its routes.
pub record IsDrawing (format : Format) (route : Option ℕ) (instance solution : List ℕ) (drawing : Drawing) : Type 0 where
  pub examined : PlanExamination
  pub is_examined : IsPlanExamined format instance solution examined
  pub drawn : IsPlanDrawing route examined drawing

-- The picture is written to the output, or the reason why there is none to standard error. The other stream
-- stays as it was, except that for a partial plan the requests that it leaves out are written to standard
-- error.
abbrev pub PrintsDrawing : Drawing → Option (List ℕ) → Option (List ℕ) → Option (List ℕ) → Option (List ℕ) → ℕ → Type 0
PrintsDrawing (Picture svg) output after errors later status = (status ≡ 0) × Appends output after svg.items × Appends errors later []
PrintsDrawing (Partial svg left_out) output after errors later status = (status ≡ 0) × Appends output after svg.items × Appends errors later (left_out_text left_out.items)
PrintsDrawing NoSuchRoute output after errors later status = (status ≡ 2) × Appends errors later (line (codes "no NoSuchRoute")) × Appends output after []
PrintsDrawing (Refused answer) output after errors later status = (status ≡ answer.status) × Appends errors later (line answer.line) × Appends output after []

-- The drawing is printed; or `out of memory` on standard error, with status 4, and nothing on the output.
abbrev pub PrintsDrawResult : {E : Type 0} → Result Drawing E → Option (List ℕ) → Option (List ℕ) → Option (List ℕ) → Option (List ℕ) → ℕ → Type 0
PrintsDrawResult (Ok drawing) output after errors later status = PrintsDrawing drawing output after errors later status
PrintsDrawResult (Err e) output after errors later status = (status ≡ 4) × Appends errors later (line (codes "out of memory")) × Appends output after []

-- Both files were read, and the solution was drawn.
pub record DrawsBothRead (k : Format) (route : Option ℕ) (instance solution : List ℕ) (was now : List FileRead) (output after errors later : Option (List ℕ)) (status : ℕ) : Type 0 where
  pub x : List ℕ
  pub y : List ℕ
  pub read : AreBothRead instance solution x y was now
  pub drawn : Result Drawing AllocError
  pub draws : IfOk drawn (IsDrawing k route x y)
  pub reported : PrintsDrawResult drawn output after errors later status

-- One of the files could not be read, and a line on standard error says so.
pub record PrintsUnreadFile (instance solution : List ℕ) (was now : List FileRead) (output after errors later : Option (List ℕ)) (status : ℕ) : Type 0 where
  pub path : List ℕ
  pub error : ErrorKind
  pub unread : IsUnread instance solution path error was now
  pub reported : PrintsReadFailure path error errors later status
  pub silent : Appends output after []

-- The solution in two files is drawn, or only its route with this number; or one of the files could not be read.
abbrev pub DrawsFiles : Format → Option ℕ → List ℕ → List ℕ → List FileRead → List FileRead → Option (List ℕ) → Option (List ℕ) → Option (List ℕ) → Option (List ℕ) → ℕ → Type 0
DrawsFiles k route instance solution was now output after errors later status =
    DrawsBothRead k route instance solution was now output after errors later status ⊎ PrintsUnreadFile instance solution was now output after errors later status

-- The number of vehicles up to the last one with a stop. The routes given are those after the first `before`
-- vehicles, and `count` is the number of vehicles up to the last one with a stop among these first ones.
abbrev pub used_vehicle_count_after : ℕ → ℕ → List (List ℕ) → ℕ
used_vehicle_count_after count before [] = count
used_vehicle_count_after count before (route ∷ routes) = used_vehicle_count_after (if length route == 0 then count else before + 1) (before + 1) routes

-- The routes of the vehicles up to the last one with a stop. The vehicles after it are idle.
abbrev pub used_vehicles : List (List ℕ) → List (List ℕ)
used_vehicles routes = take (used_vehicle_count_after 0 0 routes) routes

-- The picture of a job's plan, which passes, or of one of its routes, without the idle vehicles at the end.
abbrev pub IsJobDrawing : Option ℕ → JobValue → Drawing → Type 0
IsJobDrawing route job drawing = IsPictureOf route job.problem (used_vehicles job.plan) (Pass (cost_of job.problem job.plan)) drawing

-- The picture of a state's plan; or, if nothing is loaded, `no NoInstance` on standard error.
abbrev pub DrawsState : Option ℕ → State → Option (List ℕ) → Option (List ℕ) → Option (List ℕ) → Option (List ℕ) → ℕ → Type 0
DrawsState route Empty output after errors later status = (status ≡ 2) × Appends errors later (line (codes "no NoInstance")) × Appends output after []
DrawsState route (Loaded job) output after errors later status = (drawn : Result Drawing AllocError) × IfOk drawn (IsJobDrawing route job) × PrintsDrawResult drawn output after errors later status

-- The store in the file is opened for reading only, and its plan is drawn, or the route of the vehicle with this
-- number; or the reason why there is no picture is printed on standard error. `IsShared` says what is known about
-- the device over the file. `foretold` is the content of standard error after the line with the number of
-- replayed search steps.
abbrev pub DrawsStore : {D : Type 0} → sectors.Ghosts D → (List ℕ → D → Type 0) → List ℕ → Option ℕ → Option (List ℕ) → Option (List ℕ) → Option (List ℕ) → Option (List ℕ) → ℕ → Type 0
DrawsStore {D} on IsShared path route output after errors later status =
    (foretold : Option (List ℕ))
    × OpensReadOnly on IsShared path (λ looked. DrawsState route looked.state output after foretold later status)
    (λ unopened. MayAnnounceReplay unopened errors foretold × PrintsOpenFailure path unopened foretold later status × Appends output after [])

-- The subcommand `solve`: what it prints.
use Rattle.std.specs.Prelude.{◌≡◌, ℕ, ◌==◌, if◌then◌else◌, ◌⊎◌, List, [], ◌∷◌, ◌++◌, length, take, codes, decimal, Option, Result, Ok, Err, MatchResult}
use Rattle.std.specs.Io.KnownBytes.{Appends}
use Rattle.std.specs.List.{flat_map}
use Rattle.std.specs.declared.io.ErrorKind.{ErrorKind}
use Rattle.plan_types.specs.declared.requests.Kind.{Kind}
use Rattle.plan_types.specs.declared.requests.Kind.TheVariants.{LiLim, Vrp}
use Rattle.route_sched.specs.Cost.{used_count}
use Rattle.instance_read.specs.Names.{kind_name}
use Rattle.command_types.specs.Job.{JobValue}
use Rattle.request_explanation.specs.Why.{reason_text}
use Rattle.request_explanation.specs.declared.line_prefixes.LinePrefix.TheVariants.{Named}
use Rattle.plan_solve.specs.Solved.{Fails, IsSolved}
use Rattle.plan_solve.specs.declared.faults.SolveFault.{SolveFault}
use Rattle.plan_solve.specs.declared.faults.SolveFault.TheVariants as fault
use Rattle.plan_solve.specs.declared.solver.SolvedPlan.{SolvedPlan}
use Rattle.sol_text.specs.Written.{customers_text}
use Rattle.auditor_cli.specs.AnswerText.{fault_text}
use Rattle.auditor_cli.specs.IgnoredLines.{ignored_limit_note}
use Rattle.command_line.specs.Invocations.{SolveArgsValue}
use Rattle.auditor_cli.specs.Reads.{FileRead}
use Rattle.command_text.specs.Answers.{line}
use Rattle.auditor_cli.specs.Messages.{PrintsReadFailure}

-- The line that says why there is no plan: the first fault of the instance, or that memory ran out.
abbrev pub fault_line : SolveFault → List ℕ
fault_line (fault.Refused first) = line (fault_text (codes "instance") (kind_name first.kind) first.line)
fault_line fault.OutOfMemory = line (codes "out of memory")

-- The exit status if there is no plan: 2 for a fault of the instance, 4 if memory ran out.
abbrev pub fault_status : SolveFault → ℕ
fault_status (fault.Refused first) = 2
fault_status fault.OutOfMemory = 4

-- The line that says why there is no plan is printed, and `status` is its exit status.
abbrev pub PrintsSolveFault : SolveFault → Option (List ℕ) → Option (List ℕ) → ℕ → Type 0
PrintsSolveFault f before after status = (status ≡ fault_status f) × Appends before after (fault_line f)

-- The line `unplanned N: R1 R2 ..`, with the number and the names of these requests.
abbrev pub unplanned_line : List ℕ → List ℕ
unplanned_line names = line (codes "unplanned " ++ decimal (length names) ++ codes ":" ++ customers_text names)

-- The line `routes N`, with the number of routes that a plan uses; empty for kind `LiLim`, since the cost of such a
-- plan has this number.
abbrev pub route_count_text : Kind → List (List ℕ) → List ℕ
route_count_text LiLim routes = []
route_count_text Vrp routes = line (codes "routes " ++ decimal (used_count routes))

-- The line of the requests that are left out; empty if there are none.
abbrev pub left_out_text : List ℕ → List ℕ
left_out_text names = if length names == 0 then [] else unplanned_line names

-- For each of these requests, why it is in no route of the job's plan, in the words of the command `why`.
abbrev pub reasons_text : JobValue → List ℕ → List ℕ
reasons_text j names = flat_map (reason_text Named j.problem j.pins j.plan) names

-- The reasons for all of these requests, with status 1; or only for the first k, with status 4, if memory ran out
-- then.
abbrev pub AreReasons : JobValue → List ℕ → List ℕ → ℕ → Type 0
AreReasons j names text status =
    ((status ≡ 1) × (text ≡ reasons_text j names)) ⊎ ((k : ℕ) × (status ≡ 4) × (text ≡ reasons_text j (take k names) ++ line (codes "out of memory")))

-- The reasons for these requests are printed on standard error.
abbrev pub PrintsReasons : JobValue → List ℕ → Option (List ℕ) → Option (List ℕ) → ℕ → Type 0
PrintsReasons j names errors later status = (text : List ℕ) × AreReasons j names text status × Appends errors later text

-- The requests that a plan leaves out are printed, with the reasons; nothing is printed if it leaves none out.
abbrev pub PrintsUnplanned : JobValue → List ℕ → Option (List ℕ) → Option (List ℕ) → ℕ → Type 0
PrintsUnplanned j [] errors later status = (status ≡ 0) × Appends errors later []
PrintsUnplanned j (name ∷ names) errors later status =
    (reasons : List ℕ) × AreReasons j (name ∷ names) reasons status × Appends errors later (unplanned_line (name ∷ names) ++ reasons)

-- The text of a plan is printed on the output. The number of its routes, if its cost does not have it, and the
-- requests that it leaves out are printed on standard error.
abbrev pub PrintsPlan : SolvedPlan → Option (List ℕ) → Option (List ℕ) → Option (List ℕ) → Option (List ℕ) → ℕ → Type 0
PrintsPlan solved output after errors later status =
    Appends output after solved.text.items
    × ((counted : Option (List ℕ)) × Appends errors counted (route_count_text solved.job.problem.kind solved.job.plan) × PrintsUnplanned solved.job solved.unplanned.items counted later status)

-- The plan is printed; or the reason why there is none is printed on standard error.
abbrev pub PrintsSolveResult : Result SolvedPlan SolveFault → Option (List ℕ) → Option (List ℕ) → Option (List ℕ) → Option (List ℕ) → ℕ → Type 0
PrintsSolveResult (Ok solved) output after errors later status = PrintsPlan solved output after errors later status
PrintsSolveResult (Err f) output after errors later status = PrintsSolveFault f errors later status × Appends output after []

-- The instance in `text` is solved and the result is printed.
pub record SolvesAndPrints (task : SolveArgsValue) (text : List ℕ) (output after errors later : Option (List ℕ)) (status : ℕ) : Type 0 where
  pub found : Result SolvedPlan SolveFault
  pub searched : Option (List ℕ)
  pub solves : MatchResult found (IsSolved task.format text task.seed task.steps task.deviation errors searched) (Fails task.format text errors searched)
  pub reported : PrintsSolveResult found output after searched later status

-- The file was read and the instance solved. If the instance names a limit that is ignored, this is printed on
-- standard error first.
abbrev pub SolvesText : SolveArgsValue → List FileRead → List FileRead → Option (List ℕ) → Option (List ℕ) → Option (List ℕ) → Option (List ℕ) → ℕ → Type 0
SolvesText task was now output after errors later status =
    (x : List ℕ) × (noted : Option (List ℕ)) × (now ≡ (task.instance, Ok x) ∷ was) × Appends errors noted (ignored_limit_note task.format task.instance x) × SolvesAndPrints task x output after noted later status

-- The file can't be read, and a line on standard error says so.
abbrev pub PrintsUnreadTask : SolveArgsValue → List FileRead → List FileRead → Option (List ℕ) → Option (List ℕ) → Option (List ℕ) → Option (List ℕ) → ℕ → Type 0
PrintsUnreadTask task was now output after errors later status =
    (error : ErrorKind) × (now ≡ (task.instance, Err error) ∷ was) × PrintsReadFailure task.instance error errors later status × Appends output after []

-- The instance in the file is solved and the result is printed, or the file can't be read.
abbrev pub SolvesInstance : SolveArgsValue → List FileRead → List FileRead → Option (List ℕ) → Option (List ℕ) → Option (List ℕ) → Option (List ℕ) → ℕ → Type 0
SolvesInstance task was now output after errors later status =
    SolvesText task was now output after errors later status ⊎ PrintsUnreadTask task was now output after errors later status

-- The result of solving a problem, and of a part of its steps, with the progress lines.
use Rattle.std.specs.Prelude.{◌≡◌, ℕ, ◌+◌, ◌-◌, Bool, true, List, map, Option}
use Rattle.std.specs.List.{flat_map, range_with_len}
use Rattle.std.specs.Io.KnownBytes.{Appends}
use Rattle.instance_read.specs.declared.faults.ReadFault.{ReadFault}
use Rattle.instance_read.specs.declared.faults.ReadFaultKind.{ReadFaultKind}
use Rattle.instance_read.specs.declared.faults.ReadFaultKind.TheVariants as read_fault
use Rattle.command_core.specs.Effects.{adopted, searched}
use Rattle.command_types.specs.Job.{JobValue}
use Rattle.command_types.specs.declared.states.State.{State}
use Rattle.command_types.specs.declared.states.State.TheVariants.{Loaded}
use Rattle.command_text.specs.Answers.{at_text, line}
use Rattle.hybrid_search.specs.Bred.{IsBred}
use Rattle.plan_solve.specs.Solved.{AreBredLines, Ends, IsBredJob, above, twentieths}
use Rattle.plan_solve.specs.declared.faults.SolveFault.{SolveFault}
use Rattle.plan_solve.specs.declared.faults.SolveFault.TheVariants as fault
use Rattle.plan_solve.specs.declared.progress_lines.EndedJob.{EndedJob}

-- The fault of `solve` for a fault of the instance, if this is its kind. Running out of memory names no line.
abbrev pub refused_by : ReadFaultKind → ReadFault → SolveFault
refused_by read_fault.OutOfMemory first = fault.OutOfMemory
refused_by _ first = fault.Refused first

-- The fault of `solve` for the first fault of the instance.
abbrev pub refused : ReadFault → SolveFault
refused first = refused_by first.kind first

-- The progress lines after these numbers of steps, for a search that begins with this job.
abbrev pub reported : JobValue → List ℕ → List ℕ
reported j marks = flat_map (λ n. line (at_text (searched j n))) marks

-- The numbers of steps, greater than `last`, at which progress lines are still due after k twentieths.
abbrev pub remaining_marks : ℕ → ℕ → ℕ → List ℕ
remaining_marks steps last k = above last (map (twentieths steps) (range_with_len (k + 1) (20 - k)))

-- The job after the steps is this one, and the progress lines are written unless one could not be.
pub record HasEnded (before now : Option (List ℕ)) (job : JobValue) (lines : List ℕ) (ended : EndedJob) : Type 0 where
  pub made : ended.job ≡ job
  pub reported : ended.is_written ≡ true → Appends before now lines

-- The steps leave the job, and the progress lines are written unless one could not be.
pub record HasWalked (before now : Option (List ℕ)) (begun : JobValue) (steps : ℕ) (deviation : Option ℕ) (ended : EndedJob) : Type 0 where
  pub lines : List ℕ
  pub ends : Ends begun steps deviation ended.job lines
  pub reported : ended.is_written ≡ true → Appends before now lines

-- The planner has a job that the hybrid search may leave.
abbrev pub IsBredState : JobValue → State → Type 0
IsBredState begun planner = (job : JobValue) × (planner ≡ Loaded job) × IsBredJob begun job

-- The planner's job has adopted the built plan or an improvement of it.
pub record Adopts (j : JobValue) (built_routes : List (List ℕ)) (planner : State) : Type 0 where
  pub routes : List (List ℕ)
  pub bred : IsBred j.problem built_routes routes
  pub made : planner ≡ Loaded (adopted j routes)

-- The planner has a job that the hybrid search may leave, and the progress lines at these numbers of iterations are
-- written unless one could not be.
pub record ReportsBred (before now : Option (List ℕ)) (begun : JobValue) (at_marks : List ℕ) (planner : State) (is_written : Bool) : Type 0 where
  pub lines : List ℕ
  pub are_lines : AreBredLines begun at_marks lines
  pub bred : IsBredState begun planner
  pub written : is_written ≡ true → Appends before now lines

-- The hybrid search may leave the job, and the progress lines at these numbers of iterations are written unless one
-- could not be.
pub record HasBred (before now : Option (List ℕ)) (begun : JobValue) (at_marks : List ℕ) (ended : EndedJob) : Type 0 where
  pub lines : List ℕ
  pub are_lines : AreBredLines begun at_marks lines
  pub bred : IsBredJob begun ended.job
  pub reported : ended.is_written ≡ true → Appends before now lines

-- The planner has this job after the steps, and the progress lines are written unless one could not be.
pub record HasMade (before now : Option (List ℕ)) (job : JobValue) (lines : List ℕ) (planner : State) (is_written : Bool) : Type 0 where
  pub made : planner ≡ Loaded job
  pub written : is_written ≡ true → Appends before now lines

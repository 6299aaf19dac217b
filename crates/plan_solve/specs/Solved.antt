-- The result of solving an instance, and the progress lines.
use Rattle.std.specs.Prelude.{◌≡◌, ◌≢◌, ℕ, ◌*◌, ◌/◌, ◌<◌, ◌≤◌, ◌^◌, ◌==◌, max, min, nat_lt, Bool, true, false, if◌then◌else◌, List, [], ◌∷◌, ◌++◌, length, map, sum_by, codes, decimal, Option, Some, None, ⊤}
use Rattle.std.specs.List.{flat_map, list_all, range_with_len}
use Rattle.std.specs.Io.KnownBytes.{Appends}
use Rattle.plan_types.specs.Instance.{Instance, IsInstance}
use Rattle.instance_read.specs.Faults.{IsFirstFault}
use Rattle.instance_read.specs.declared.faults.ReadFault.{ReadFault}
use Rattle.instance_read.specs.declared.faults.ReadFaultKind.TheVariants as read_fault
use Rattle.sol_text.specs.Faults.{Spells}
use Rattle.plan_types.specs.declared.plans.Cost.{Cost}
use Rattle.route_sched.specs.Cost.{cost_of, used_routes}
use Rattle.sol_text.specs.Written.{routes_text}
use Rattle.seeded_search.specs.Steps.{unplanned_names}
use Rattle.command_core.specs.Effects.{adopted, built, job_after, loaded, searched, with_deviation}
use Rattle.command_types.specs.Job.{JobValue}
use Rattle.command_types.specs.Commands.{is_searching, steps_of}
use Rattle.command_core.specs.Runs.{after}
use Rattle.command_types.specs.declared.commands.Command.{Command}
use Rattle.command_types.specs.declared.commands.Command.TheVariants.{Build, Deviation, Load}
use Rattle.command_types.specs.declared.states.State.TheVariants.{Empty, Loaded}
use Rattle.command_text.specs.Answering.{commands_of}
use Rattle.command_text.specs.Answers.{at_text, cost_text, line}
use Rattle.command_text.specs.Laws.{state_after_steps}
use Rattle.instance_read.specs.Readings.{InstanceFault, SpellsInstance}
use Rattle.instance_read.specs.declared.formats.Format.{Format}
use Rattle.plan_types.specs.declared.limits.TheConstants.{MAX_REQUESTED_STEPS, MAX_DEVIATION}
use Rattle.command_text.specs.Showing.{print_text, solution_of}
use Rattle.command_text.specs.declared.steps.StepRequest.TheVariants as goal
use Rattle.command_text.specs.declared.steps.StepCursor.TheVariants as makes
use Rattle.hybrid_search.specs.Bred.{IsBred, is_accepted}
use Rattle.plan_solve.specs.declared.faults.SolveFault.{SolveFault}
use Rattle.plan_solve.specs.declared.faults.SolveFault.TheVariants as fault
use Rattle.plan_solve.specs.declared.solver.SolvedPlan.{SolvedPlan}

-- The job before the first step: the problem is loaded with the seed, and the plan is built.
abbrev pub begun : Instance → ℕ → JobValue
begun p seed = built (loaded p seed)

-- ---- Solving by the search, with a deviation

-- The job after this many steps of the search with this deviation, in the unit of distance.
abbrev pub searched_with : ℕ → JobValue → ℕ → JobValue
searched_with deviation j steps = searched (with_deviation j deviation) steps

-- The number of steps in k twentieths of `steps`, rounded down.
abbrev pub twentieths : ℕ → ℕ → ℕ
twentieths steps k = k * steps / 20

-- The items of an ascending list that are greater than `last`, each once.
abbrev pub above : ℕ → List ℕ → List ℕ
above last [] = []
above last (n ∷ ns) = if nat_lt last n then n ∷ above n ns else above last ns

-- The numbers of steps at which the search prints a progress line: 0, and each of the twentieths of `steps`.
unfoldable pub marks : ℕ → List ℕ
marks steps = 0 ∷ above 0 (map (twentieths steps) (range_with_len 1 20))

-- The progress lines of the search: `at STEPS UNPLANNED VEHICLES DISTANCE`, for the job after each of these
-- numbers of steps.
abbrev pub search_lines : ℕ → JobValue → ℕ → List ℕ
search_lines deviation j steps = flat_map (λ n. line (at_text (searched_with deviation j n))) (marks steps)

-- ---- Solving by annealing, without a deviation

-- The operations of the command `anneal 0 STEPS` on this job, in order.
abbrev pub commands_from : JobValue → ℕ → List Command
commands_from j steps = commands_of (makes.Stages 0 steps) (Loaded j)

-- The job after these operations, in order.
abbrev pub final_job : JobValue → List Command → JobValue
final_job j [] = j
final_job j (c ∷ cs) = final_job (job_after j c) cs

-- The job after `anneal 0 STEPS`.
abbrev pub annealed : JobValue → ℕ → JobValue
annealed j steps = final_job j (commands_from j steps)

-- The number of twentieths of `steps` that the job has made, rounded down.
abbrev pub twentieths_made : ℕ → JobValue → ℕ
twentieths_made steps j = 20 * j.steps / steps

-- The progress line after an operation; empty unless the job has made more than `parts` twentieths of `steps`,
-- the number when the last line was printed.
abbrev pub line_after : ℕ → ℕ → JobValue → List ℕ
line_after steps parts j = if nat_lt parts (twentieths_made steps j) then line (at_text j) else []

-- The progress lines after these operations. `parts` is the number of twentieths when the last line was printed.
abbrev pub lines_after : ℕ → ℕ → JobValue → List Command → List ℕ
lines_after steps parts j [] = []
lines_after steps parts j (c ∷ cs) =
    let next = job_after j c in line_after steps parts next ++ lines_after steps (max parts (twentieths_made steps next)) next cs

-- The progress lines of annealing: one before the first operation, and then those that are due after operations.
abbrev pub anneal_lines : JobValue → ℕ → List ℕ
anneal_lines j steps = line (at_text j) ++ lines_after steps 0 j (commands_from j steps)

-- ---- Solving by the hybrid genetic search, without a deviation, if it is for the problem

-- Whether the steps are iterations of the hybrid search.
abbrev pub is_bred : Instance → Option ℕ → Bool
is_bred p (Some deviation) = false
is_bred p None = is_accepted p

-- A job that the hybrid search may leave: it has adopted the built plan, or a plan that passes the auditor and costs
-- at most as much as the built one.
pub record IsBredJob (begun job : JobValue) : Type 0 where
  pub routes : List (List ℕ)
  pub bred : IsBred begun.problem begun.plan routes
  pub adopts : job ≡ adopted begun routes

-- The progress line for a plan of this cost after this number of iterations, each of which counts as 64 steps.
abbrev pub bred_line : Cost → ℕ → List ℕ
bred_line cost iterations = line (codes "at " ++ decimal (iterations * 64) ++ codes " " ++ cost_text cost)

-- The lines are one progress line for each of these numbers of iterations, for a job that the hybrid search may
-- leave then.
abbrev pub AreBredLines : JobValue → List ℕ → List ℕ → Type 0
AreBredLines begun [] lines = lines ≡ []
AreBredLines begun (n ∷ ns) lines = (job : JobValue) × (rest : List ℕ) × IsBredJob begun job × (lines ≡ bred_line (cost_of job.problem job.plan) n ++ rest) × AreBredLines begun ns rest

-- ---- Solving by the search or by annealing

-- The deviation of the search, limited to `MAX_DEVIATION`; `None` if the steps anneal.
abbrev pub deviation_of : Option ℕ → Option ℕ
deviation_of (Some deviation) = Some (min deviation MAX_DEVIATION)
deviation_of None = None

-- The job after this many steps, by the search with a deviation or by annealing without one.
abbrev pub solved_from : JobValue → ℕ → Option ℕ → JobValue
solved_from j steps (Some deviation) = searched_with deviation j steps
solved_from j steps None = annealed j steps

-- The job that `solve` returns, except by the hybrid search: the problem is loaded with the seed, its plan built
-- and improved by these steps.
abbrev pub solved : Instance → ℕ → ℕ → Option ℕ → JobValue
solved p seed steps deviation = solved_from (begun p seed) steps (deviation_of deviation)

-- The progress lines of this many steps, by the search with a deviation or by annealing without one.
abbrev pub progress_lines : JobValue → ℕ → Option ℕ → List ℕ
progress_lines j steps (Some deviation) = search_lines deviation j steps
progress_lines j steps None = anneal_lines j steps

-- Law: with a deviation, the result is the one that the operations of a store make, however the steps are split
-- into searches.
abbrev pub SolvingEqualsCommands : Type 0
SolvingEqualsCommands = (p : Instance) (seed deviation : ℕ) (cs : List Command) → deviation ≤ MAX_DEVIATION → list_all is_searching cs ≡ true
    → after Empty (Load p seed ∷ Build ∷ Deviation deviation ∷ cs) ≡ Loaded (solved p seed (sum_by steps_of cs) (Some deviation))

-- Law: by annealing, the result is the one that the operations of the command `anneal 0 STEPS` make.
abbrev pub AnnealingEqualsCommands : Type 0
AnnealingEqualsCommands = (p : Instance) (seed steps : ℕ)
    → after Empty (Load p seed ∷ Build ∷ commands_of (makes.Stages 0 steps) (Loaded (begun p seed))) ≡ Loaded (solved p seed steps None)

-- Law: the command `anneal 0 STEPS` makes the same job as annealing, if a command may have that many steps.
abbrev pub AnnealingEqualsOneCommand : Type 0
AnnealingEqualsOneCommand = (p : Instance) (seed steps : ℕ) → steps ≤ MAX_REQUESTED_STEPS
    → state_after_steps (goal.Stages 0 steps) (after Empty (Load p seed ∷ Build ∷ [])) [] ≡ Loaded (solved p seed steps None)

-- ---- What the steps leave

-- The job after the steps, and the progress lines, by the hybrid search or not.
abbrev pub EndsBy : Bool → JobValue → ℕ → Option ℕ → JobValue → List ℕ → Type 0
EndsBy true begun steps deviation job lines = IsBredJob begun job × AreBredLines begun (marks (steps / 64)) lines
EndsBy false begun steps deviation job lines =
    (job ≡ solved_from begun steps (deviation_of deviation)) × (lines ≡ progress_lines begun steps (deviation_of deviation))

-- The job after the steps, and the progress lines.
abbrev pub Ends : JobValue → ℕ → Option ℕ → JobValue → List ℕ → Type 0
Ends begun steps deviation job lines = EndsBy (is_bred begun.problem deviation) begun steps deviation job lines

-- ---- The answer

-- The text of a plan: a solution if no request is left out, and otherwise only the route lines.
abbrev pub plan_text : JobValue → List ℕ
plan_text j = if length (unplanned_names j.problem j.plan) == 0 then print_text j else routes_text 1 (used_routes j.plan)

-- `found` has the text of this job's plan, and the names of the requests that the plan leaves out. If it leaves
-- none out, the text reads back as the plan's solution.
pub record PrintsPlan (j : JobValue) (found : SolvedPlan) : Type 0 where
  pub job : found.job ≡ j
  pub text : found.text.items ≡ plan_text j
  pub unplanned : found.unplanned.items ≡ unplanned_names j.problem j.plan
  pub spells : found.unplanned.items ≡ [] → Spells found.text.items (solution_of j)

-- `found` is the plan that the steps leave for this problem, and the progress lines are written unless one could not
-- be.
pub record IsFound (before after_it : Option (List ℕ)) (p : Instance) (seed steps : ℕ) (deviation : Option ℕ) (found : SolvedPlan) : Type 0 where
  pub job : JobValue
  pub lines : List ℕ
  pub ends : Ends (begun p seed) steps deviation job lines
  pub plan : PrintsPlan job found
  pub reported : found.is_written ≡ true → Appends before after_it lines

-- The text is an instance, and the result is the plan for it.
pub record IsSolved (format : Format) (text : List ℕ) (seed steps : ℕ) (deviation : Option ℕ) (before after_it : Option (List ℕ)) (found : SolvedPlan) : Type 0 where
  pub problem : Instance
  pub spelled : SpellsInstance format text problem
  pub kept : IsInstance problem
  pub few : steps < 2 ^ 32
  pub is_found : IsFound before after_it problem seed steps deviation found

-- The first fault of the instance, which is not that memory ran out.
abbrev pub IsFirst : Format → List ℕ → ReadFault → Type 0
IsFirst format text first = (first.kind ≢ read_fault.OutOfMemory) × IsFirstFault (InstanceFault format text) first

-- The fault is the first one of the instance, and no progress line was written. Or memory ran out, which may
-- happen at any time.
abbrev pub Fails : Format → List ℕ → Option (List ℕ) → Option (List ℕ) → SolveFault → Type 0
Fails format text before after_it (fault.Refused first) = IsFirst format text first × Appends before after_it []
Fails format text before after_it fault.OutOfMemory = ⊤

-- The operations of `anneal FROM TO`, for a given job.
use Rattle.std.specs.Prelude.{ℕ, zero, suc, ◌+◌, ◌-◌, ◌/◌, ◌==◌, ◌&&◌, nat_lt, min, if◌then◌else◌, List, [], ◌∷◌, Option, Some, None}
use Rattle.std.specs.Option.{option_and_then, option_map}
use Rattle.annealing_schedule.specs.Stages.{boundary, hundredths_of, mean_leg_share, stage_of}
use Rattle.command_core.specs.Effects.{job_after, with_deviation}
use Rattle.command_types.specs.Job.{JobValue}
use Rattle.command_types.specs.declared.limits.TheConstants.{MAX_REDUCE_STEPS}
use Rattle.command_text.specs.declared.staging.TheConstants.{FIRST_HUNDREDTHS}
use Rattle.command_text.specs.declared.steps.TheConstants.{MAX_ANNEAL_PIECE}
use Rattle.command_types.specs.declared.commands.Command.{Command}
use Rattle.command_types.specs.declared.commands.Command.TheVariants.{Anneal, Deviation, Reduce}
use Rattle.plan_types.specs.declared.requests.Kind.{Kind}
use Rattle.plan_types.specs.declared.requests.Kind.TheVariants.{LiLim, Vrp}

-- The first step of the second half of `from..to`. If the number of vehicles counts, the first half looks for
-- plans with fewer vehicles.
abbrev pub halfway : ℕ → ℕ → ℕ
halfway from to = from + (to - from) / 2

-- The first step after the first twentieth of the first half. This twentieth anneals before the search for fewer
-- vehicles.
abbrev pub first_anneal_end : ℕ → ℕ → ℕ
first_anneal_end from to = from + (halfway from to - from) / 20

-- ---- the next operation after n steps, for the steps `from..to`

-- The operation in stage k: annealing up to the end of the stage, with at most `MAX_ANNEAL_PIECE` steps.
abbrev pub stage_piece : ℕ → ℕ → ℕ → ℕ → Command
stage_piece from to n k = Anneal (min (boundary from to (k + 1) - n) MAX_ANNEAL_PIECE)

-- The next operation if all steps anneal in stages, or none if step n is not in `from..to`.
abbrev pub staged_steps : ℕ → ℕ → ℕ → Option Command
staged_steps from to n = option_map (stage_piece from to n) (stage_of from to n)

-- The next operation if the number of vehicles counts. The first half anneals and then looks for fewer vehicles,
-- with at most `MAX_REDUCE_STEPS` steps in one operation. The second half anneals in stages.
abbrev pub reducing_steps : ℕ → ℕ → ℕ → Option Command
reducing_steps from to n =
    if nat_lt n from then None else
    if nat_lt n (first_anneal_end from to) then Some (Anneal (min (first_anneal_end from to - n) MAX_ANNEAL_PIECE)) else
    if nat_lt n (halfway from to) then Some (Reduce (min (halfway from to - n) MAX_REDUCE_STEPS)) else staged_steps (halfway from to) to n

-- The operation that makes the next steps, or none if no steps are left.
abbrev pub steps_due : Kind → ℕ → ℕ → ℕ → Option Command
steps_due LiLim from to n = reducing_steps from to n
steps_due Vrp from to n = staged_steps from to n

-- The deviation of stage k in hundredths of the mean leg, if step n is the first one of the stage.
abbrev pub stage_start_hundredths : ℕ → ℕ → ℕ → ℕ → Option ℕ
stage_start_hundredths from to n k = if n == boundary from to k then Some (hundredths_of k) else None

-- The deviation to set before step n if all steps anneal in stages, in hundredths of the mean leg.
abbrev pub staged_hundredths : ℕ → ℕ → ℕ → Option ℕ
staged_hundredths from to n = option_and_then (stage_start_hundredths from to n) (stage_of from to n)

-- The deviation to set before step n if the number of vehicles counts, in hundredths of the mean leg. It is 100
-- at the start of the first annealing, and that of the stage in the second half.
abbrev pub reducing_hundredths : ℕ → ℕ → ℕ → Option ℕ
reducing_hundredths from to n =
    if nat_lt n (halfway from to) then (if (n == from) && nat_lt n (first_anneal_end from to) then Some FIRST_HUNDREDTHS else None) else staged_hundredths (halfway from to) to n

-- The deviation to set before step n, in hundredths of the mean leg, or none if it stays as it is.
abbrev pub hundredths_due : Kind → ℕ → ℕ → ℕ → Option ℕ
hundredths_due LiLim from to n = reducing_hundredths from to n
hundredths_due Vrp from to n = staged_hundredths from to n

-- ---- the operations of a job

-- The given operation and the operations `next` after it, or no operations if none is given.
abbrev pub made_by : (JobValue → List Command) → Option Command → JobValue → List Command
made_by next None j = []
made_by next (Some c) j = c ∷ next (job_after j c)

-- The operation that sets the given deviation, if there is one, and then the operations `follows`.
abbrev pub set_before : (JobValue → List Command) → Option ℕ → JobValue → List Command
set_before follows None j = follows j
set_before follows (Some d) j = Deviation d ∷ follows (with_deviation j d)

-- The operations for the steps `from..to`.
module _ (from to : ℕ) where
  -- The operation that makes the job's next steps, or none if no steps are left.
  abbrev pub next_steps : JobValue → Option Command
  next_steps j = steps_due j.problem.kind from to j.steps

  -- The deviation to set before the job's next steps, in the instance's unit of distance, or none if it stays as
  -- it is.
  abbrev pub next_deviation : JobValue → Option ℕ
  next_deviation j = option_map (mean_leg_share j.problem j.plan) (hundredths_due j.problem.kind from to j.steps)

  -- The operation that makes the next steps, once their deviation is set, and the operations `next` after it.
  abbrev pub next_operations : (JobValue → List Command) → JobValue → List Command
  next_operations next j = made_by next (next_steps j) j

  -- The first n operations that make steps, each after the operation that sets its deviation if there is one.
  -- There are fewer than n if the last step comes first.
  unfoldable pub staged_within : ℕ → JobValue → List Command
  staged_within zero j = []
  staged_within (suc n) j = set_before (next_operations (staged_within n)) (next_deviation j) j

  -- All operations that are left. The limit on their number is high enough, since each operation makes at least
  -- one step.
  abbrev pub stage_commands : JobValue → List Command
  stage_commands j = staged_within (suc (to - j.steps)) j

  -- All operations that are left, once the deviation of the next steps is set.
  abbrev pub commands_in_stage : JobValue → List Command
  commands_in_stage j = next_operations (staged_within (to - j.steps)) j

-- The search state that a planner keeps from one command to the next
use Rattle.std.specs.Prelude.{◌≡◌, ℕ, Option, IfSome}
use Rattle.move_ops.specs.Drafts.{base_of}
use Rattle.seeded_search.specs.Steps.{search_plans}
use Rattle.seeded_search.specs.SearchStates.{IsSearchState, search_plans_of}
use Rattle.seeded_search.specs.declared.search_state.SearchState.{SearchState}
use Rattle.command_types.specs.Job.{JobValue}
use Rattle.command_core.specs.Changes.{job_with, with_change}
use Rattle.command_types.specs.declared.states.State.{State}
use Rattle.command_types.specs.declared.states.State.TheVariants.{Empty, Loaded}
use Rattle.command_types.specs.declared.commands.Command.{Command}
use Rattle.command_types.specs.declared.commands.Command.TheVariants as commands
use Rattle.command_core.specs.declared.step.StepCount.{StepCount}
use Rattle.command_core.specs.declared.step.StepCount.TheVariants.{Search, Anneal}
use Rattle.command_core.specs.declared.step.StepOutcome.{StepOutcome}
use Rattle.command_core.specs.declared.effects.CommandOutcome.{CommandOutcome}

-- A search state between two steps, whose plans are the job's
pub record IsSearchStateOf (j : JobValue) (w : SearchState) : Type 0 where
  pub search_state : IsSearchState j.problem j.pins w
  pub plans : search_plans_of w ≡ search_plans j.plan j.work

-- A search state whose plans are those of the state
abbrev pub FitsState : State → SearchState → Type 0
FitsState Empty w = ⊥
FitsState (Loaded j) w = IsSearchStateOf j w

-- If a search state is kept, it belongs to the state
abbrev pub IsKept : State → Option SearchState → Type 0
IsKept state kept = IfSome kept (FitsState state)

-- The job with the plans of a search state, after this many steps in all
abbrev pub with_search_plans : JobValue → SearchState → ℕ → JobValue
with_search_plans j w steps = record j { plan = w.incumbent.routes; work = base_of w.draft; steps = steps }

-- The command that makes these steps
abbrev pub command_for : StepCount → Command
command_for (Search count) = commands.Search count
command_for (Anneal count) = commands.Anneal count

-- The steps lead from the old job to the new one
pub record IsStepOutcome (old new : JobValue) (s : StepOutcome) : Type 0 where
  pub change : job_with s.change old ≡ new
  pub search_state : IsSearchStateOf new s.search_state

-- The command leads from the old state to the new one
pub record IsOutcome (old new : State) (c : CommandOutcome) : Type 0 where
  pub change : with_change c.change old ≡ new
  pub kept : IsKept new c.search_state

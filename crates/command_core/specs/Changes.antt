-- The change that a command makes to a state
use Rattle.std.specs.Prelude.{◌≡◌, [], ◌∷◌}
use Rattle.command_types.specs.Job.{JobValue}
use Rattle.command_core.specs.Effects.{effect}
use Rattle.command_core.specs.Runs.{AreAccepted}
use Rattle.command_types.specs.States.{IsState}
use Rattle.command_types.specs.declared.states.State.{State}
use Rattle.command_types.specs.declared.states.State.TheVariants.{Empty, Loaded}
use Rattle.command_types.specs.declared.commands.Command.{Command}
use Rattle.command_core.specs.declared.changes.JobChange.{JobChange}
use Rattle.command_core.specs.declared.changes.JobChange.TheVariants.{Nothing, Pinned, Working, Plans}
use Rattle.command_core.specs.declared.changes.Change.{Change}
use Rattle.command_core.specs.declared.changes.Change.TheVariants.{Replace, Update}

-- The job after this change
abbrev pub job_with : JobChange → JobValue → JobValue
job_with Nothing j = j
job_with (Pinned pins work) j = record j { pins = pins.routes; work = work.routes }
job_with (Working work deviation) j = record j { work = work.routes; deviation = deviation }
job_with (Plans plan work steps) j = record j { plan = plan.routes; work = work.routes; steps = steps }

-- The state after this change
abbrev pub with_change : Change → State → State
with_change (Replace new) state = new
with_change (Update change) Empty = Empty
with_change (Update change) (Loaded j) = Loaded (job_with change j)

-- A command was executed in place: the new state is the effect of the command on the old one, and `before`
-- restores the old one
pub record IsChanged (old : State) (command : Command) (before : Change) (new : State) : Type 0 where
  pub accepted : AreAccepted old (command ∷ [])
  pub effect : new ≡ effect old command
  pub facts : IsState new
  pub back : with_change before new ≡ old

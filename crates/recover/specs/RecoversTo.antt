-- The state that an image of a version recovers to.
use Rattle.std.specs.Prelude.{◌≡◌, ℕ, List}
use Rattle.command_core.specs.Runs.{after, AreAccepted}
use Rattle.command_types.specs.declared.states.State.{State}
use Rattle.command_types.specs.declared.commands.Command.{Command}
use Rattle.state_codec.specs.declared.version.Version.{Version}
use Rattle.checkpoint.specs.declared.places.Place.{Place}
use Rattle.checkpoint.specs.Holds.{Holds}

-- The image holds a state and commands. Each command is accepted in turn, and `state` is the result.
pub record RecoversTo (version : Version) (image : List ℕ) (state : State) : Type 0 where
  pub snapshot : State
  pub commands : List Command
  pub place : Place
  pub holds : Holds version image snapshot commands place
  pub accepted : AreAccepted snapshot commands
  pub leads : after snapshot commands ≡ state

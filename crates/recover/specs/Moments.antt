-- The images that a crash may leave at each moment of a run.
use Rattle.std.specs.Prelude.{ℕ, ◌+◌, ◌≤◌, List, length, take}
use Rattle.command_core.specs.Runs.{after, AreAccepted}
use Rattle.command_types.specs.declared.states.State.{State}
use Rattle.command_types.specs.declared.commands.Command.{Command}
use Rattle.state_codec.specs.declared.version.Version.TheVariants.{Two}
use Rattle.recover.specs.declared.replies.Reply.{Reply}
use Rattle.recover.specs.RecoversTo.{RecoversTo}
use Rattle.recover.specs.Replies.{kept_commands, acknowledged_count}

-- The image recovers to the state after the first `count` of these commands, each accepted. `count` is the
-- number of acknowledged ones, or one more.
pub record RecoversToPrefix (state : State) (commands : List Command) (acknowledged : ℕ) (image : List ℕ) : Type 0 where
  pub count : ℕ
  pub all_acknowledged : acknowledged ≤ count
  pub one_more : count ≤ acknowledged + 1
  pub within : count ≤ length commands
  pub accepted : AreAccepted state (take count commands)
  pub recovers : RecoversTo Two image (after state (take count commands))

-- The guarantee of a run from this state for each image that a crash may leave when m device calls have
-- finished.
abbrev pub RunLeaves : State → List Command → List Reply → ℕ → List ℕ → Type 0
RunLeaves state commands replies m image = RecoversToPrefix state (kept_commands commands replies) (acknowledged_count m replies) image

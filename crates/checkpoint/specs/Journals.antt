-- The journal of a sequence, for the state of its snapshot.
use Rattle.std.specs.Prelude.{ℕ, List, length}
use Rattle.command_types.specs.declared.states.State.{State}
use Rattle.command_types.specs.declared.commands.Command.{Command}
use Rattle.state_codec.specs.declared.version.Version.{Version}
use Rattle.checkpoint.specs.Numbers.{HaveValidNumbers}
use Rattle.checkpoint.specs.Reads.{HasRecords, IsClearFrom}

-- the journal has these commands, no record sector after theirs begins with this sequence or a greater one, and
-- the version allows the numbers of the stops that they add
pub record HasJournal (version : Version) (prefix : List ℕ) (sequence : ℕ) (state : State) (commands : List Command) : Type 0 where
  pub records : HasRecords version prefix sequence commands
  pub clear : IsClearFrom (length commands) prefix sequence
  pub numbers : HaveValidNumbers version state commands

-- The encoding of a state as a snapshot.
use Rattle.std.specs.Prelude.{◌≡◌, ℕ, List, length, take}
use Rattle.command_types.specs.States.{IsState}
use Rattle.command_types.specs.declared.states.State.{State}
use Rattle.state_codec.specs.declared.version.Version.TheVariants.{Two}
use Rattle.state_codec.specs.Bytes.{state_bytes}
use Rattle.checkpoint.specs.DurableWrites.{IsSaved}
use Rattle.checkpoint.specs.WrittenImages.{to_whole_sectors}

-- the state's bytes, padded to whole sectors
pub record IsSnapshot (state : State) (size : ℕ) (bytes : List ℕ) : Type 0 where
  pub size_is : size ≡ length (state_bytes Two state)
  pub bytes_are : bytes ≡ to_whole_sectors (state_bytes Two state)
  pub is : take size bytes ≡ state_bytes Two state
  pub facts : IsState state
  pub saved : IsSaved size bytes

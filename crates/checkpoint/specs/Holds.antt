-- The content of an image: a state, the commands committed after it, and the place at which the journal
-- continues.
use Rattle.std.specs.Prelude.{◌≡◌, ℕ, suc, List, [], ◌∷◌, length, All}
use Rattle.command_types.specs.States.{IsState}
use Rattle.command_types.specs.declared.states.State.{State}
use Rattle.command_types.specs.declared.commands.Command.{Command}
use Rattle.state_codec.specs.declared.version.Version.{Version}
use Rattle.state_codec.specs.declared.version.Version.TheVariants.{One, Two}
use Rattle.state_codec.specs.Bytes.{state_bytes, record_bytes}
use Rattle.state_codec.specs.Limits.{IsStateOf, IsRecorded}
use Rattle.checkpoint.specs.declared.layouts.Layout.{Layout}
use Rattle.checkpoint.specs.declared.places.Place.{Place}
use Rattle.checkpoint.specs.Layouts.{version_1, version_2}
use Rattle.checkpoint.specs.Stores.{Stores}
use Rattle.checkpoint.specs.Numbers.{HaveValidNumbers}

abbrev pub layout_of : Version → Layout
layout_of One = version_1
layout_of Two = version_2

-- The sectors of these commands, as the records of a sequence from this index on.
abbrev pub journal : Version → ℕ → ℕ → List Command → List (List ℕ)
journal version sequence index [] = []
journal version sequence index (command ∷ commands) = record_bytes version sequence index command ∷ journal version sequence (suc index) commands

-- The image stores the bytes of this state and the records of these commands, under the sequence of the place.
-- The state keeps its invariants and can be encoded in the version. Each command has a record, and the version
-- allows the numbers of the stops that the commands add.
pub record Holds (version : Version) (image : List ℕ) (state : State) (commands : List Command) (place : Place) : Type 0 where
  pub stored : Stores (layout_of version) image place.sequence (state_bytes version state) (journal version place.sequence 0 commands)
  pub used : place.used ≡ length commands
  pub facts : IsState state
  pub reported : IsStateOf version state
  pub recorded : All (IsRecorded version) commands
  pub numbers : HaveValidNumbers version state commands

-- An image of the current version holds this state and these commands at this place.
abbrev pub HoldsAt : State → List Command → Place → List ℕ → Type 0
HoldsAt state commands place image = Holds Two image state commands place

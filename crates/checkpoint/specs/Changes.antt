-- The changes that commits make to a store.
use Rattle.std.specs.Prelude.{ℕ, ◌<◌, ◌≤◌, List, Result, OnOk}
use Rattle.sector_disk.specs.declared.sectors.Sectors as sectors
use Rattle.sector_disk.specs.Sectors.{Only}
use Rattle.sector_disk.specs.Calls.{CommitsFrom}
use Rattle.command_types.specs.declared.states.State.{State}
use Rattle.command_types.specs.declared.commands.Command.{Command}
use Rattle.state_codec.specs.Limits.{IsRecorded}
use Rattle.state_codec.specs.declared.version.Version.TheVariants.{Two}
use Rattle.checkpoint.specs.declared.places.Place.{Place}
use Rattle.checkpoint.specs.Holds.{HoldsAt}
use Rattle.checkpoint.specs.Layouts.{version_2, journal_room, last_sequence, sectors_in}

-- A store of the current version is at this place, on a device with `sectors` sectors.
pub record IsStorePlace (sectors : ℕ) (place : Place) : Type 0 where
  pub room : sectors_in version_2 ≤ sectors
  pub first : 1 ≤ place.sequence
  pub last : place.sequence ≤ last_sequence

-- The place has a sequence for one more snapshot.
pub record IsUnspent (sectors : ℕ) (place : Place) : Type 0 where
  pub room : sectors_in version_2 ≤ sectors
  pub first : 1 ≤ place.sequence
  pub next : place.sequence < last_sequence

-- The journal has room for one more record, and the command has one.
pub record HasRecordRoom (sectors : ℕ) (place : Place) (command : Command) : Type 0 where
  pub free : place.used < journal_room
  pub recorded : IsRecorded Two command
  pub room : sectors_in version_2 ≤ sectors
  pub first : 1 ≤ place.sequence
  pub last : place.sequence ≤ last_sequence

module _ {D : Type 0} (on : sectors.Ghosts D) where
  -- A commit of `steps` calls. If each image held a state and commands at this place before the commit, Y holds
  -- for that state, these commands and each image after it. Until `quiet` calls have finished each image holds
  -- the old content, from then on the old or the new one. After Ok the one possible image is `written`.
  pub record ChangesStore {T E : Type 0} (result : Result T E) (steps quiet : ℕ) (place : Place) (Y : State → List Command → List ℕ → Type 0) (written : List ℕ) (old new : D) : Type 0 where
    pub commits : (state : State) (commands : List Command) → CommitsFrom on result steps quiet (HoldsAt state commands place) (Y state commands) old new
    pub durable : on.honest new → OnOk result (Only written (on.possible new))

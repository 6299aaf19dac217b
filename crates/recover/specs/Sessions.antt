-- A session, as its callers see it, and its invariant.
use Rattle.std.specs.Prelude.{◌≡◌, ℕ, ◌≤◌, Bool, false, List}
use Rattle.command_core.specs.Runs.{after, AreAccepted}
use Rattle.command_types.specs.States.{IsState}
use Rattle.command_types.specs.declared.states.State.{State}
use Rattle.command_types.specs.declared.commands.Command.{Command}
use Rattle.state_codec.specs.declared.version.Version.TheVariants.{Two}
use Rattle.checkpoint.specs.declared.places.Place.{Place}
use Rattle.checkpoint.specs.Holds.{Holds}
use Rattle.checkpoint.specs.Layouts.{version_2, journal_room, last_sequence, sectors_in}

pub record SessionValue (D : Type 0) : Type 0 where
  pub device : D
  -- The state after every acknowledged command.
  pub state : State
  -- The place at which the journal continues.
  pub place : Place
  -- Whether the device has failed in a command.
  pub is_broken : Bool

-- Each of these images holds the same snapshot and commands at this place, and recovers to this state.
pub record AllHold (images : List ℕ → Type 0) (state : State) (place : Place) : Type 0 where
  pub snapshot : State
  pub commands : List Command
  pub accepted : AreAccepted snapshot commands
  pub leads : after snapshot commands ≡ state
  pub each : (image : List ℕ) → images image → Holds Two image snapshot commands place

-- The state keeps its invariants, the device has room for a store, and the place is valid. Unless the session
-- is broken or the device is not honest, each image that a crash may leave recovers to the state.
pub record IsSession {D : Type 0} (len : D → ℕ) (honest : D → Type 0) (possible : D → List ℕ → Type 0) (s : SessionValue D) : Type 0 where
  pub state : IsState s.state
  pub room : sectors_in version_2 ≤ len s.device
  pub first : 1 ≤ s.place.sequence
  pub last : s.place.sequence ≤ last_sequence
  pub used : s.place.used ≤ journal_room
  pub durable : s.is_broken ≡ false → honest s.device → AllHold (possible s.device) s.state s.place

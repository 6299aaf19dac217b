-- The result of opening a device, for a version of its store.
use Rattle.std.specs.Prelude.{◌≡◌, ◌⊎◌, ℕ, ◌+◌, ◌*◌, ◌<◌, ◌≤◌, false, List, sum_by, Result, Ok, Err, OnOk, IsErrOf, ⊤}
use Rattle.sector_disk.specs.declared.sectors.Sectors as sectors
use Rattle.sector_disk.specs.Sectors.{Only, Throughout}
use Rattle.command_types.specs.Commands.{steps_of}
use Rattle.command_core.specs.Runs.{AreAccepted}
use Rattle.command_types.specs.States.{IsState}
use Rattle.command_types.specs.declared.limits.TheConstants.{MAX_SEARCH_STEPS}
use Rattle.command_types.specs.declared.states.State.{State}
use Rattle.command_types.specs.declared.states.State.TheVariants.{Empty, Loaded}
use Rattle.command_types.specs.declared.commands.Command.{Command}
use Rattle.state_codec.specs.declared.fault.CodecFault.TheVariants.{BadField}
use Rattle.state_codec.specs.declared.version.Version.{Version}
use Rattle.state_codec.specs.declared.version.Version.TheVariants.{Two}
use Rattle.checkpoint.specs.declared.faults.StoreFault.{StoreFault}
use Rattle.checkpoint.specs.declared.faults.StoreFault.TheVariants.{NotFormatted, BadVersion, Codec, Spent, OutOfMemory, DeviceFault}
use Rattle.checkpoint.specs.declared.places.Place.{Place}
use Rattle.checkpoint.specs.Holds.{Holds}
use Rattle.checkpoint.specs.InvalidImages.{HoldsNothing, IsLoadFault, UnlessReadFailed}
use Rattle.checkpoint.specs.Layouts.{journal_room, min_sectors}
use Rattle.checkpoint.specs.Reads.{ReadsOnly}
use Rattle.checkpoint.specs.Refusals.{faults_after_reading, faults_of_store}
use Rattle.recover.specs.RecoversTo.{RecoversTo}
use Rattle.recover.specs.Applying.{IsBetween}
use Rattle.recover.specs.Sessions.{SessionValue}

-- A state that has P is returned, unless memory ran out or the device failed.
abbrev pub ReturnsUnlessFailed : (State → Type 0) → Result State StoreFault → Type 0
ReturnsUnlessFailed P (Ok state) = P state
ReturnsUnlessFailed P (Err OutOfMemory) = ⊤
ReturnsUnlessFailed P (Err DeviceFault) = ⊤
ReturnsUnlessFailed P (Err NotFormatted) = ⊥
ReturnsUnlessFailed P (Err BadVersion) = ⊥
ReturnsUnlessFailed P (Err (Codec fault)) = ⊥
ReturnsUnlessFailed P (Err Spent) = ⊥

-- The guarantee of opening a device for the image that its reads return: if the image recovers to a state, that
-- state is returned.
abbrev pub Opens : Version → List ℕ → Result State StoreFault → Type 0
Opens version image outcome = (state : State) → RecoversTo version image state → ReturnsUnlessFailed (λ given. given ≡ state) outcome

-- The image holds a state and commands, and some command is refused in the state after those before it.
pub record HoldsRefused (version : Version) (image : List ℕ) : Type 0 where
  pub snapshot : State
  pub commands : List Command
  pub place : Place
  pub holds : Holds version image snapshot commands place
  pub refused : ¬ AreAccepted snapshot commands

-- The fault of an image that recovers to no state: it holds nothing, or it holds commands that are not all
-- accepted, which is reported as BadField.
abbrev pub RecoversToNothing : Version → List ℕ → StoreFault → Type 0
RecoversToNothing version image fault = HoldsNothing version image fault ⊎ ((fault ≡ Codec BadField) × HoldsRefused version image)

-- The number of search steps of a state.
abbrev pub steps_of_state : State → ℕ
steps_of_state Empty = 0
steps_of_state (Loaded job) = job.steps

-- The journal that the image holds continues at this place, and `replayed` search steps are replayed: the steps
-- of the state minus those of the snapshot. They are made by the searches among the commands.
pub record IsReplayed (version : Version) (image : List ℕ) (state : State) (place : Place) (replayed : ℕ) : Type 0 where
  pub snapshot : State
  pub commands : List Command
  pub holds : Holds version image snapshot commands place
  pub steps : steps_of_state state ≡ steps_of_state snapshot + replayed
  pub searched : replayed ≡ sum_by steps_of commands
  pub most : replayed ≤ journal_room * MAX_SEARCH_STEPS

-- Opening replays `steps` search steps of the image: those of the searches among the commands that it holds.
pub record IsStepsToReplay (version : Version) (image : List ℕ) (steps : ℕ) : Type 0 where
  pub snapshot : State
  pub commands : List Command
  pub place : Place
  pub holds : Holds version image snapshot commands place
  pub searched : steps ≡ sum_by steps_of commands
  pub most : steps ≤ journal_room * MAX_SEARCH_STEPS
  -- Any opening of the image replays this number of steps.
  pub agrees : (state : State) (other : Place) (replayed : ℕ) → IsReplayed version image state other replayed → replayed ≡ steps

-- The device was only read. It is unchanged, except that one call may have failed.
module _ {D : Type 0} (on : sectors.Ghosts D) where
  pub record IsOnlyRead {T : Type 0} (answer : Result T StoreFault) (old new : D) : Type 0 where
    pub read : ReadsOnly on (faults_after_reading answer) old new
    -- A device smaller than any store is not called.
    pub small : on.len old < min_sectors → new ≡ old
    pub reported : on.len old < min_sectors → IsErrOf answer NotFormatted

-- The bytes that reads return after a refusal: those from before or, if the device failed, an image that a
-- crash might have left before.
abbrev pub ReadsAfter : StoreFault → (List ℕ → Type 0) → List ℕ → List ℕ → Type 0
ReadsAfter DeviceFault possible before after = possible after
ReadsAfter NotFormatted possible before after = after ≡ before
ReadsAfter BadVersion possible before after = after ≡ before
ReadsAfter (Codec fault) possible before after = after ≡ before
ReadsAfter Spent possible before after = after ≡ before
ReadsAfter OutOfMemory possible before after = after ≡ before

-- The bytes that reads return after an opening with any result.
abbrev pub ReadsAfterOpening : {T : Type 0} → Result T StoreFault → (List ℕ → Type 0) → List ℕ → List ℕ → Type 0
ReadsAfterOpening (Ok x) possible before after = after ≡ before
ReadsAfterOpening (Err fault) possible before after = ReadsAfter fault possible before after

module _ {D : Type 0} (on : sectors.Ghosts D) where
  -- The effect of a sync and the reads after it, even if only some of these calls were made. After Ok, the
  -- bytes that reads returned are durable. Each image that a crash leaves at any moment was possible before.
  -- Reads return the same as before, or after a failed call an image that was possible.
  pub record Settles {T : Type 0} (result : Result T StoreFault) (old new : D) : Type 0 where
    pub only : OnOk result (Only (on.seen old) (on.possible new))
    pub again : ReadsAfterOpening result (on.possible old) (on.seen old) (on.seen new)
    pub moments : Throughout on.clock on.possible_since old new (λ m image. IsBetween (on.calls old) (on.calls old + 1) m image × on.possible old image)

module _ {D : Type 0} (on : sectors.Ghosts D) where
  -- Opening the device returned this session, which is not broken. The image that reads returned recovers to
  -- the session's state. After the opening each possible image recovers to that state, and at each moment of
  -- the opening each image is one of those before.
  pub record IsOpened (device : D) (session : SessionValue D) (replayed : ℕ) : Type 0 where
    pub room : min_sectors ≤ on.len device
    pub given : on.honest session.device → RecoversTo Two (on.seen device) session.state
    pub opens : on.honest session.device → Opens Two (on.seen device) (Ok session.state)
    pub replays : on.honest session.device → IsReplayed Two (on.seen device) session.state session.place replayed
    pub recovers : on.honest session.device → (image : List ℕ) → on.possible session.device image → RecoversTo Two image session.state
    pub reads : on.honest session.device → on.seen session.device ≡ on.seen device
    pub moments : on.honest session.device
        → Throughout on.clock on.possible_since device session.device (λ m image. IsBetween (on.calls device) (on.calls device + 1) m image × on.possible device image)
    pub honest : on.honest session.device → on.honest device
    pub facts : IsState session.state
    pub whole : session.is_broken ≡ false
    pub finished : on.calls session.device ≡ on.calls device + 1
    pub faults : on.faults session.device ≡ on.faults device
    pub same_len : on.len session.device ≡ on.len device

  -- Opening the device was refused: its image recovers to no state, or could not be read. Unless the device
  -- failed, reads then return the same, so another opening returns what this one would have returned without
  -- the refusal. At each moment of the opening each image is one of those before.
  pub record IsRefused (device after : D) (fault : StoreFault) : Type 0 where
    pub refused : on.honest after → UnlessReadFailed (RecoversToNothing Two (on.seen device)) fault
    pub opens : on.honest after → Opens Two (on.seen device) (Err fault)
    pub fails : IsLoadFault fault
    pub small : on.len device < min_sectors → (fault ≡ NotFormatted) × (after ≡ device)
    pub reads : on.honest after → ReadsAfter fault (on.possible device) (on.seen device) (on.seen after)
    pub moments : on.honest after
        → Throughout on.clock on.possible_since device after (λ m image. IsBetween (on.calls device) (on.calls device + 1) m image × on.possible device image)
    pub honest : on.honest after → on.honest device
    pub faults : on.faults after ≡ faults_of_store fault (on.faults device)
    pub same_len : on.len after ≡ on.len device

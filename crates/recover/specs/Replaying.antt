-- The result of replaying the commands of a store.
use Rattle.std.specs.Prelude.{◌≡◌, ℕ, ◌+◌, ◌-◌, ◌*◌, ◌≤◌, List, sum_by, Result, ⊤}
use Rattle.sector_disk.specs.declared.sectors.Sectors as sectors
use Rattle.command_types.specs.Commands.{steps_of}
use Rattle.command_core.specs.Runs.{after, AreAccepted}
use Rattle.command_types.specs.States.{IsState}
use Rattle.command_types.specs.declared.limits.TheConstants.{MAX_SEARCH_STEPS}
use Rattle.command_types.specs.declared.states.State.{State}
use Rattle.command_types.specs.declared.commands.Command.{Command}
use Rattle.command_types.specs.declared.refusals.Refusal.{Refusal}
use Rattle.command_types.specs.declared.refusals.Refusal.TheVariants as refusals
use Rattle.state_codec.specs.declared.fault.CodecFault.TheVariants.{Truncated, BadField, PlanRefused, OutOfMemory}
use Rattle.state_codec.specs.declared.version.Version.{Version}
use Rattle.checkpoint.specs.declared.faults.StoreFault.{StoreFault}
use Rattle.checkpoint.specs.declared.faults.StoreFault.TheVariants as store
use Rattle.checkpoint.specs.declared.places.Place.{Place}
use Rattle.checkpoint.specs.Holds.{Holds, layout_of}
use Rattle.checkpoint.specs.Layouts.{journal_room, sectors_in}
use Rattle.checkpoint.specs.Loads.{ReportsStore}
use Rattle.checkpoint.specs.Reads.{IsWellFormedLoad}
use Rattle.recover.specs.declared.opening.RecoveredState.{RecoveredState}
use Rattle.recover.specs.Opening.{steps_of_state, RecoversToNothing}

-- The store's fault for a refused record: out of memory, or else a bad field, since the record does not belong
-- to its store.
abbrev pub fault_of : Refusal → StoreFault
fault_of refusals.OutOfMemory = store.OutOfMemory
fault_of _ = store.Codec BadField

-- BadField if the commands are not all accepted, or out of memory
abbrev pub IsReplayFault : State → List Command → StoreFault → Type 0
IsReplayFault snapshot commands store.OutOfMemory = ⊤
IsReplayFault snapshot commands (store.Codec BadField) = ¬ AreAccepted snapshot commands
IsReplayFault snapshot commands (store.Codec Truncated) = ⊥
IsReplayFault snapshot commands (store.Codec (PlanRefused rule)) = ⊥
IsReplayFault snapshot commands (store.Codec OutOfMemory) = ⊥
IsReplayFault snapshot commands store.NotFormatted = ⊥
IsReplayFault snapshot commands store.BadVersion = ⊥
IsReplayFault snapshot commands store.Spent = ⊥
IsReplayFault snapshot commands store.DeviceFault = ⊥

-- The commands are replayed from the snapshot on, and the journal continues at this place.
pub record IsReplay (snapshot : State) (commands : List Command) (at : Place) (found : RecoveredState) : Type 0 where
  pub accepted : AreAccepted snapshot commands
  pub leads : after snapshot commands ≡ found.state
  pub facts : IsState found.state
  pub place : found.place ≡ at
  pub replayed : found.replayed ≡ steps_of_state found.state - steps_of_state snapshot

-- The state after replaying the commands of this image, its place, and the number of steps of the commands.
pub record IsReplayedImage (version : Version) (image : List ℕ) (state : State) (place : Place) (replayed : ℕ) : Type 0 where
  pub snapshot : State
  pub commands : List Command
  pub holds : Holds version image snapshot commands place
  pub accepted : AreAccepted snapshot commands
  pub leads : after snapshot commands ≡ state
  pub steps : steps_of_state state ≡ steps_of_state snapshot + replayed
  pub searched : replayed ≡ sum_by steps_of commands
  pub most : replayed ≤ journal_room * MAX_SEARCH_STEPS

module _ {D : Type 0} (on : sectors.Ghosts D) where
  -- The result for a device's store: the state that its image recovers to.
  abbrev pub ReportsState : Version → Result RecoveredState StoreFault → D → D → Type 0
  ReportsState version result old new = ReportsStore on (λ found. IsWellFormedLoad (sectors_in (layout_of version)) (on.len old) found.state found.place)
      (λ found. IsReplayedImage version (on.seen old) found.state found.place found.replayed) (RecoversToNothing version (on.seen old)) result old new

-- Commits, and the images that a crash may leave within one.
use Rattle.std.specs.Prelude.{◌≡◌, ℕ, ◌≤◌, true, List, None, Result, Ok, Err, OnOk}
use Rattle.sector_disk.specs.declared.sectors.Sectors as sectors
use Rattle.sector_disk.specs.Sectors.{Throughout}
use Rattle.sector_disk.specs.Calls.{IsInCommit}
use Rattle.command_types.specs.Commands.{is_recorded, fits_record}
use Rattle.command_types.specs.declared.commands.Command.{Command}
use Rattle.command_types.specs.declared.states.State.{State}
use Rattle.state_codec.specs.declared.version.Version.TheVariants.{Two}
use Rattle.checkpoint.specs.declared.faults.StoreFault.{StoreFault}
use Rattle.checkpoint.specs.declared.faults.StoreFault.TheVariants as store
use Rattle.checkpoint.specs.declared.places.Place.{Place}
use Rattle.checkpoint.specs.Layouts.{version_2, journal_room, last_sequence, sectors_in}
use Rattle.checkpoint.specs.Refusals.{one_more_fault}
use Rattle.recover.specs.declared.commits.CommitFault.{CommitFault}
use Rattle.recover.specs.declared.commits.CommitFault.TheVariants.{OutOfMemory, DeviceFault}
use Rattle.recover.specs.Applying.{spent_denial}
use Rattle.recover.specs.RecoversTo.{RecoversTo}
use Rattle.recover.specs.Sessions.{AllHold}

-- A moment within `steps` calls that lead from one state to another. m calls have finished in all; `calls` is
-- their number when the first of these began.
abbrev pub IsInStep : State → State → ℕ → ℕ → ℕ → List ℕ → Type 0
IsInStep old new calls steps m image = IsInCommit (λ i. RecoversTo Two i old) (λ i. RecoversTo Two i new) steps 0 calls m image

-- The fault of a commit to a store that has a place for the command: a failed call or out of memory, and no
-- other.
abbrev pub IsCommitFault : StoreFault → Type 0
IsCommitFault store.DeviceFault = Unit {0}
IsCommitFault store.OutOfMemory = Unit {0}
IsCommitFault _ = ⊥

-- The reason why the commit failed: a failed call, else out of memory.
abbrev pub cause : StoreFault → CommitFault
cause store.DeviceFault = DeviceFault
cause _ = OutOfMemory

-- If memory ran out, the device is unchanged.
abbrev pub LeavesDevice : {D : Type 0} → CommitFault → D → D → Type 0
LeavesDevice OutOfMemory old new = new ≡ old
LeavesDevice DeviceFault old new = Unit {0}

-- The number of failed calls after a commit that failed: one more for DeviceFault, and no more otherwise.
abbrev pub faults_of_commit : CommitFault → ℕ → ℕ
faults_of_commit DeviceFault faults = one_more_fault faults
faults_of_commit OutOfMemory faults = faults

abbrev pub faults_after_commit : {T : Type 0} → Result T CommitFault → ℕ → ℕ
faults_after_commit (Ok x) faults = faults
faults_after_commit (Err fault) faults = faults_of_commit fault faults

-- There is a place for the command: a sector for a record, or a sequence for a snapshot that is due.
pub record CanCommit (sectors : ℕ) (place : Place) (command : Command) : Type 0 where
  pub fits : is_recorded command ≡ true → fits_record command ≡ true
  pub unspent : spent_denial place command ≡ None
  pub room : sectors_in version_2 ≤ sectors
  pub first : 1 ≤ place.sequence
  pub last : place.sequence ≤ last_sequence
  pub used : place.used ≤ journal_room

module _ {D : Type 0} (on : sectors.Ghosts D) where
  -- A commit of `steps` calls from one state to another: the images that a crash may leave within it, and the
  -- images after Ok.
  pub record CommitsState {T E : Type 0} (result : Result T E) (steps : ℕ) (state next : State) (following : Place) (old new : D) : Type 0 where
    pub moments : Throughout on.clock on.possible_since old new (IsInStep state next (on.calls old) steps)
    pub after : OnOk result (AllHold (on.possible new) next following)

  -- A commit as in `CommitsState`, if the device is honest and all its images held the state at this place.
  abbrev pub CommitsStateFrom : {T E : Type 0} → Result T E → ℕ → State → State → Place → Place → D → D → Type 0
  CommitsStateFrom result steps state next place following old new = on.honest new → AllHold (on.possible old) state place → CommitsState result steps state next following old new

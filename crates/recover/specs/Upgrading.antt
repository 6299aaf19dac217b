-- The result of an upgrade, and its effect on the two devices.
use Rattle.std.specs.Prelude.{◌≡◌, ◌⊎◌, ℕ, ◌+◌, ◌<◌, List, [], Result, Ok, Err, OnOk, IfOk, IfErr, IsErrOf, MatchResult, ⊤}
use Rattle.sector_disk.specs.Sectors.{Throughout, more}
use Rattle.sector_disk.specs.Calls.{Calls}
use Rattle.sector_disk.specs.declared.sectors.Sectors as sectors
use Rattle.command_types.specs.declared.states.State.{State}
use Rattle.state_codec.specs.declared.version.Version.TheVariants.{One, Two}
use Rattle.checkpoint.specs.Layouts.{version_2, min_sectors}
use Rattle.checkpoint.specs.Places.{first_place}
use Rattle.checkpoint.specs.Stores.{IsUnformatted}
use Rattle.checkpoint.specs.Holds.{Holds}
use Rattle.checkpoint.specs.InvalidImages.{IsLoadFault, UnlessReadFailed}
use Rattle.checkpoint.specs.Moments.{IsInFormat}
use Rattle.checkpoint.specs.Refusals.{faults_after_reading, faults_of_store, faults_of_format}
use Rattle.checkpoint.specs.declared.faults.FormatFault.TheVariants as format
use Rattle.checkpoint.specs.declared.faults.StoreFault.{StoreFault}
use Rattle.checkpoint.specs.declared.faults.StoreFault.TheVariants.{NotFormatted}
use Rattle.checkpoint.specs.declared.places.Place.{Place}
use Rattle.recover.specs.declared.upgrading.UpgradeFault.{UpgradeFault}
use Rattle.recover.specs.declared.upgrading.UpgradeFault.TheVariants.{Old, New}
use Rattle.recover.specs.Applying.{IsBetween}
use Rattle.recover.specs.Opening.{RecoversToNothing}
use Rattle.recover.specs.RecoversTo.{RecoversTo}

-- A property that must hold if the old device's store was read.
abbrev pub OnRead : {T : Type 0} → Result T UpgradeFault → Type 0 → Type 0
OnRead (Ok x) P = P
OnRead (Err (Old fault)) P = ⊤
OnRead (Err (New format.TooSmall)) P = ⊤
OnRead (Err (New format.DeviceFault)) P = P
OnRead (Err (New format.OutOfMemory)) P = P

-- A property that must hold if the new device was called.
abbrev pub OnWritten : {T : Type 0} → Result T UpgradeFault → Type 0 → Type 0
OnWritten (Ok x) P = P
OnWritten (Err (Old fault)) P = ⊤
OnWritten (Err (New format.TooSmall)) P = ⊤
OnWritten (Err (New format.DeviceFault)) P = P
OnWritten (Err (New format.OutOfMemory)) P = ⊤

-- Each device counts the failed call that is reported for it, and no other.
abbrev pub faults_of_old : {T : Type 0} → Result T UpgradeFault → ℕ → ℕ
faults_of_old (Ok x) faults = faults
faults_of_old (Err (Old fault)) faults = faults_of_store fault faults
faults_of_old (Err (New fault)) faults = faults

abbrev pub faults_of_new : {T : Type 0} → Result T UpgradeFault → ℕ → ℕ
faults_of_new (Ok x) faults = faults
faults_of_new (Err (Old fault)) faults = faults
faults_of_new (Err (New fault)) faults = faults_of_format fault faults

-- The devices that a refusal leaves unchanged: both if the new one is too small, otherwise the new one unless
-- it failed.
abbrev pub IsKeptByUpgrade : {D E : Type 0} → UpgradeFault → D → D → E → E → Type 0
IsKeptByUpgrade (Old fault) old old_after new new_after = new_after ≡ new
IsKeptByUpgrade (New format.TooSmall) old old_after new new_after = (old_after ≡ old) × (new_after ≡ new)
IsKeptByUpgrade (New format.DeviceFault) old old_after new new_after = ⊤
IsKeptByUpgrade (New format.OutOfMemory) old old_after new new_after = new_after ≡ new

module _ {D : Type 0} (on : sectors.Ghosts D) where
  -- The result of reading a store of version 1: the state that its image recovers to, or its fault, unless
  -- memory ran out or the device failed. The device is synced and read, and never written to: at each moment
  -- each of its images is one of those at entry.
  pub record ReadsOldStore (result : Result State StoreFault) (old after : D) : Type 0 where
    pub found : on.honest after → MatchResult result (RecoversTo One (on.seen old)) (UnlessReadFailed (RecoversToNothing One (on.seen old)))
    pub fails : IfErr result IsLoadFault
    pub called : Calls on (more result 1) (faults_after_reading result) old after
    pub moments : on.honest after → Throughout on.clock on.possible_since old after (λ m image. IsBetween (on.calls old) (on.calls old + 1) m image × on.possible old image)
    -- A device smaller than any store is not called.
    pub small : on.len old < min_sectors → (after ≡ old) × IsErrOf result NotFormatted

  -- The old device is synced and read, and never written to. At each moment each of its images is one of those
  -- at entry.
  pub record IsReadOnly {T : Type 0} (answer : Result T UpgradeFault) (old after : D) : Type 0 where
    pub called : Calls on (λ n m. OnRead answer (m ≡ n + 1)) (faults_of_old answer) old after
    pub moments : on.honest after → Throughout on.clock on.possible_since old after (λ m image. IsBetween (on.calls old) (on.calls old + 1) m image × on.possible old image)
    pub small : on.len old < min_sectors → after ≡ old
    pub reported : on.len old < min_sectors → (answer ≡ Err (Old NotFormatted)) ⊎ (answer ≡ Err (New format.TooSmall))

  -- The fault of the old store: its image recovers to no state of version 1, or memory ran out, or the device
  -- failed.
  abbrev pub IsOldStoreFault : UpgradeFault → D → D → Type 0
  IsOldStoreFault (Old fault) old after = IsLoadFault fault × (on.honest after → UnlessReadFailed (RecoversToNothing One (on.seen old)) fault)
  IsOldStoreFault (New fault) old after = ⊤

module _ {E : Type 0} (on : sectors.Ghosts E) where
  -- The new device gets the six calls of a format, or none.
  abbrev pub IsFormatted : {T : Type 0} → Result T UpgradeFault → E → E → Type 0
  IsFormatted answer new after = Calls on (more answer 6) (faults_of_new answer) new after

module _ {D E : Type 0} (on_old : sectors.Ghosts D) (on_new : sectors.Ghosts E) where
  -- The fault is that of the old store or of the new one, and the devices are as such a refusal leaves them.
  abbrev pub IsRefusal : UpgradeFault → D → D → E → E → Type 0
  IsRefusal fault old old_after new new_after = IsOldStoreFault on_old fault old old_after × IsKeptByUpgrade fault old old_after new new_after

  -- The new store is created from the state that the old device recovers to. From the first successful sync to
  -- the header's write each image of the new device is unformatted. After Ok each image holds that state and no
  -- command, and so recovers to that state.
  pub record IsMadeFromOld (answer : Result Place UpgradeFault) (old old_after : D) (new new_after : E) : Type 0 where
    pub state : State
    pub old_recovers : on_old.honest old_after → RecoversTo One (on_old.seen old) state
    pub place : IfOk answer (λ place. place ≡ first_place)
    pub moments : on_new.honest new_after
        → Throughout on_new.clock on_new.possible_since new new_after (IsInFormat (IsUnformatted version_2) (λ image. Holds Two image state [] first_place) (on_new.calls new))
    pub holds : on_new.honest new_after → OnOk answer ((image : List ℕ) → on_new.possible new_after image → Holds Two image state [] first_place)
    pub recovers : on_new.honest new_after → OnOk answer ((image : List ℕ) → on_new.possible new_after image → RecoversTo Two image state)

-- The result of opening a store: on a device, in a file, and in a file that is made for it.
use Rattle.std.specs.Prelude.{◌≡◌, ◌⊎◌, ℕ, ◌==◌, Bool, true, false, List, Option, Some, Result, Ok, Err, MatchResult}
use Rattle.std.specs.Option.{option_map}
use Rattle.std.specs.Io.KnownBytes.{Appends}
use Rattle.std.specs.IoError.{error_kind}
use Rattle.std.specs.declared.io.ErrorKind.{ErrorKind}
use Rattle.std.specs.declared.io.ErrorKind.TheVariants.{NotFound}
use Rattle.checkpoint.specs.Layouts.{sectors_in, version_2}
use Rattle.checkpoint.specs.declared.faults.FormatFault.{FormatFault}
use Rattle.checkpoint.specs.declared.faults.StoreFault.{StoreFault}
use Rattle.checkpoint.specs.declared.faults.StoreFault.TheVariants.{NotFormatted}
use Rattle.checkpoint.specs.declared.places.Place.{Place}
use Rattle.planner_cli.specs.Format.{IsFormatted}
use Rattle.planner_cli.specs.Messages.{file_fault_line, file_fault_status, store_fault_line, store_fault_status, format_fault_line, format_fault_status}
use Rattle.planner_cli.specs.declared.opening.OpenFailure.{OpenFailure}
use Rattle.planner_cli.specs.declared.opening.OpenFailure.TheVariants.{File, Store, FormatFailed}
use Rattle.recover.specs.Opening.{IsOpened, IsRefused}
use Rattle.recover.specs.declared.opening.Opened.{Opened}
use Rattle.file_disk.specs.DeviceFiles.{IsNotCreatedAt, IsNotOpenedExistingAt}
use Rattle.file_disk.specs.declared.file_device.OpenError.{OpenError}
use Rattle.sector_disk.specs.declared.sectors.Sectors as sectors

-- The line for a store that was not opened: it names the fault of the file, of opening the store, or of
-- formatting the device.
abbrev pub open_failure_line : {D : Type 0} → List ℕ → OpenFailure D → List ℕ
open_failure_line path (File refusal) = file_fault_line path refusal.fault
open_failure_line path (Store fault left) = store_fault_line fault
open_failure_line path (FormatFailed fault left) = format_fault_line fault

-- The exit status for a store that was not opened: 2, 3 or 4, depending on this fault.
abbrev pub open_failure_status : {D : Type 0} → OpenFailure D → ℕ
open_failure_status (File refusal) = file_fault_status refusal.fault
open_failure_status (Store fault left) = store_fault_status fault
open_failure_status (FormatFailed fault left) = format_fault_status fault

-- The line for a store that was not opened is printed, and `status` is its exit status.
abbrev pub PrintsOpenFailure : {D : Type 0} → List ℕ → OpenFailure D → Option (List ℕ) → Option (List ℕ) → ℕ → Type 0
PrintsOpenFailure path unopened before after status = (status ≡ open_failure_status unopened) × Appends before after (open_failure_line path unopened)

-- Whether the system reported that there is no file at the path.
abbrev pub is_not_found : Option ErrorKind → Bool
is_not_found (Some NotFound) = true
is_not_found _ = false

-- If the file could not be opened as a device, the stream `errors` is as it was. Otherwise the number of search
-- steps to replay may have been printed on it.
abbrev pub MayAnnounceReplay : {D : Type 0} → OpenFailure D → Option (List ℕ) → Option (List ℕ) → Type 0
MayAnnounceReplay (File refusal) before after = after ≡ before
MayAnnounceReplay _ before after = Unit {0}

module _ {D : Type 0} (on : sectors.Ghosts D) where
  -- Opening this device failed: with this fault, and with the device `left` afterwards.
  abbrev pub IsRefusal : D → OpenFailure D → Type 0
  IsRefusal device (Store fault left) = IsRefused on device left fault
  IsRefusal device _ = ⊥

  -- The result of opening this device: a session, or the fault and the device afterwards.
  abbrev pub IsOpening : D → Result (Opened D) (OpenFailure D) → Type 0
  IsOpening device opening = MatchResult opening (λ opened. IsOpened on device opened.session opened.replayed) (IsRefusal device)

  -- ---- In files: `IsReady` says what is known about a device that is opened, `IsBare` about one that is
  -- formatted

  -- The session was opened on some device for which `IsReady` holds.
  pub record IsOpenedFrom (IsReady : D → Type 0) (opened : Opened D) : Type 0 where
    pub device : D
    pub ready : IsReady device
    pub opens : IsOpened on device opened.session opened.replayed

  -- Opening some device for which `IsReady` holds was refused with this fault, and left the device `left`.
  pub record IsRefusedFrom (IsReady : D → Type 0) (fault : StoreFault) (left : D) : Type 0 where
    pub device : D
    pub ready : IsReady device
    pub refuses : IsRefused on device left fault

  -- Formatting some device for which `IsBare` holds failed with this fault, and left the device `left`.
  pub record IsFormatFailure (IsBare : D → Type 0) (fault : FormatFault) (left : D) : Type 0 where
    pub device : D
    pub bare : IsBare device
    pub fails : IsFormatted on device left (Err fault)

  -- The reason why no session was opened. Either there is no device, and `IsNone` holds for the reason; or
  -- opening or formatting a device failed.
  abbrev pub IsOpenFailure : (D → Type 0) → (D → Type 0) → (OpenError → Type 0) → OpenFailure D → Type 0
  IsOpenFailure IsReady IsBare IsNone (File refusal) = IsNone refusal
  IsOpenFailure IsReady IsBare IsNone (Store fault left) = IsRefusedFrom IsReady fault left
  IsOpenFailure IsReady IsBare IsNone (FormatFailed fault left) = IsFormatFailure IsBare fault left

  -- The result of opening a store: a session, or the reason why there is none.
  abbrev pub IsOpeningOf : (D → Type 0) → (D → Type 0) → (OpenError → Type 0) → Result (Opened D) (OpenFailure D) → Type 0
  IsOpeningOf IsReady IsBare IsNone opening = MatchResult opening (IsOpenedFrom IsReady) (IsOpenFailure IsReady IsBare IsNone)

  -- The result of opening the store in the existing file at a path. Nothing is formatted. `IsOld` says what is
  -- known about the device over that file.
  abbrev pub IsStoreOpening : (List ℕ → D → Type 0) → List ℕ → Result (Opened D) (OpenFailure D) → Type 0
  IsStoreOpening IsOld path opening = IsOpeningOf (IsOld path) (λ device. ⊥) (IsNotOpenedExistingAt path) opening

  -- The device is over a file that was made with 8,450 sectors of 512 bytes. `IsNew` says what else is known
  -- about it.
  abbrev pub IsNewFile : (D → Type 0) → D → Type 0
  IsNewFile IsNew device = IsNew device × (on.len device ≡ sectors_in version_2)

  -- Opening the device over a new file reported that it holds no store, and left the device `bare`.
  pub record HoldsNoStore (IsNew : D → Type 0) (bare : D) : Type 0 where
    pub device : D
    pub made : IsNewFile IsNew device
    pub refuses : IsRefused on device bare NotFormatted

  -- The device over a new file, as it was made, or formatted since it held no store.
  abbrev pub IsReadyStore : (D → Type 0) → D → Type 0
  IsReadyStore IsNew ready = IsNewFile IsNew ready ⊎ ((bare : D) × (place : Place) × HoldsNoStore IsNew bare × IsFormatted on bare ready (Ok place))

  -- The result of opening the store in a file that was made at a path. If the file held no store, it was
  -- formatted first.
  abbrev pub IsNewOpening : (List ℕ → D → Type 0) → List ℕ → Result (Opened D) (OpenFailure D) → Type 0
  IsNewOpening IsNew path opening = IsOpeningOf (IsReadyStore (IsNew path)) (HoldsNoStore (IsNew path)) (IsNotCreatedAt (sectors_in version_2) path) opening

  -- The store in the file at a path was opened, and `OnOpened` holds for the result; or it was not, and
  -- `OnUnopened` holds for the reason.
  abbrev pub OpensStore : (List ℕ → D → Type 0) → List ℕ → (Opened D → Type 0) → (OpenFailure D → Type 0) → Type 0
  OpensStore IsOld path OnOpened OnUnopened = (opening : Result (Opened D) (OpenFailure D)) × IsStoreOpening IsOld path opening × MatchResult opening OnOpened OnUnopened

  -- Whether the store needs a new file: the system reports that there is no file at the path, or the file is
  -- empty, as `load` leaves it if the disk is full.
  abbrev pub needs_new_file : Result (Opened D) (OpenFailure D) → Bool
  needs_new_file (Ok opened) = false
  needs_new_file (Err (File refusal)) = is_not_found (option_map error_kind refusal.cause)
  needs_new_file (Err (Store NotFormatted left)) = on.len left == 0
  needs_new_file (Err _) = false

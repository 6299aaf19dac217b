-- The subcommand `upgrade`: it reads a store of version 1 completely, and then makes a store with its state in
-- another file. `reported` is the exit status, or an error if printing the answer failed; everything else holds
-- in both cases. If printing failed, at most a prefix of the answer was written. `left` are the devices
-- afterwards.
use Rattle.std.specs.Prelude.{◌≡◌, ◌≢◌, ◌⊎◌, ℕ, Bool, true, false, List, ◌∷◌, Option, Some, None, Result, MatchResult, codes}
use Rattle.checkpoint.specs.declared.faults.StoreFault.{StoreFault}
use Rattle.command_types.specs.declared.states.State.{State}
use Rattle.command_server.specs.Streams.{Stream}
use Rattle.command_text.specs.Answers.{line}
use Rattle.planner_cli.specs.Format.{MakesStoreAt}
use Rattle.planner_cli.specs.StoreDevices.{no_devices}
use Rattle.planner_cli.specs.Load.{DiskRequests}
use Rattle.planner_cli.specs.Messages.{PrintsFormatResult, PrintsText, new_file_fault_line, file_fault_line, file_fault_status, store_fault_line, store_fault_status, new_format_fault_line}
use Rattle.planner_cli.specs.declared.store_devices.StoreDevices.{StoreDevices}
use Rattle.recover.specs.Upgrading.{ReadsOldStore}
use Rattle.file_disk.specs.DeviceFiles.{AreCompared, FileRequestEntry, IsNotOpenedExistingAt}
use Rattle.file_disk.specs.declared.device_files.FileRequest.TheVariants.{Create, OpenExisting}
use Rattle.file_disk.specs.declared.file_device.OpenError.{OpenError}
use Rattle.sector_disk.specs.declared.sectors.Sectors as sectors

-- The line `same store` is printed, with status 64: both paths lead to one file.
abbrev pub PrintsSameStore : {X : Type 0} → Option (List ℕ) → Option (List ℕ) → Result ℕ X → Type 0
PrintsSameStore before after reported = PrintsText (line (codes "same store")) 64 before after reported

module _ {D E X : Type 0} (on_old : sectors.Ghosts D) (on_new : sectors.Ghosts E) (IsOld : List ℕ → D → Type 0) (IsNew : List ℕ → E → Type 0) where
  -- A store with this state is made in the file at the path, and `ok` is written after all device calls that made
  -- it have finished. `IsNew` says what is known about the device over that file.
  abbrev pub MakesNewStore : State → List ℕ → DiskRequests → Stream → Stream → Result ℕ X → Option E → Type 0
  MakesNewStore state path disks before after reported left =
      (disks.now ≡ (Create, path) ∷ disks.was)
      × MakesStoreAt on_new IsNew state path (λ made calls. PrintsFormatResult new_format_fault_line made calls before after reported)
      (λ fault. PrintsText (new_file_fault_line path fault) (file_fault_status fault) before.contents after.contents reported) left

  -- The store on the old device is read completely. If that fails, the fault is printed, and no other file is
  -- requested. Otherwise a store with its state is made in the new file.
  abbrev pub UpgradesDevice : D → List ℕ → DiskRequests → Stream → Stream → Result ℕ X → StoreDevices D E → Type 0
  UpgradesDevice old path disks before after reported left =
      (device : D) × (read : Result State StoreFault) × (left.store ≡ Some device) × ReadsOldStore on_old read old device
      × MatchResult read (λ state. MakesNewStore state path disks before after reported left.new_store)
      (λ fault. (left.new_store ≡ None) × (disks.now ≡ disks.was) × PrintsText (store_fault_line fault) (store_fault_status fault) before.contents after.contents reported)

  -- The old file is opened, or the reason why it is not is printed. `taken` are the requests for files after the
  -- old one was requested.
  abbrev pub UpgradesFromFile : List ℕ → List ℕ → List FileRequestEntry → DiskRequests → Stream → Stream → Result ℕ X → StoreDevices D E → Type 0
  UpgradesFromFile path new_path taken disks before after reported left =
      (taken ≡ (OpenExisting, path) ∷ disks.was)
      × (((old : D) × IsOld path old × UpgradesDevice old new_path (record { was = taken; now = disks.now }) before after reported left)
      ⊎ ((refusal : OpenError) × IsNotOpenedExistingAt path refusal × (disks.now ≡ taken) × (left ≡ no_devices)
      × PrintsText (file_fault_line path refusal.fault) (file_fault_status refusal.fault) before.contents after.contents reported))

  -- The program checks whether the two paths, which differ, lead to one file. `compared` are the requests for
  -- files after this check.
  abbrev pub UpgradesDistinct : List ℕ → List ℕ → List FileRequestEntry → Bool → DiskRequests → Stream → Stream → Result ℕ X → StoreDevices D E → Type 0
  UpgradesDistinct path new_path compared is_one disks before after reported left =
      AreCompared path new_path is_one disks.was compared
      × (((is_one ≡ true) × (disks.now ≡ compared) × (left ≡ no_devices) × PrintsSameStore before.contents after.contents reported)
      ⊎ ((is_one ≡ false) × ((taken : List FileRequestEntry) × UpgradesFromFile path new_path taken (record { was = compared; now = disks.now }) before after reported left)))

  -- If the paths are equal or lead to one file, `same store` is printed. Otherwise the store in the old file is
  -- upgraded into the new one.
  abbrev pub UpgradesStore : List ℕ → List ℕ → DiskRequests → Stream → Stream → Result ℕ X → StoreDevices D E → Type 0
  UpgradesStore path new_path disks before after reported left =
      ((path ≡ new_path) × (disks.now ≡ disks.was) × (left ≡ no_devices) × PrintsSameStore before.contents after.contents reported)
      ⊎ ((path ≢ new_path) × ((compared : List FileRequestEntry) × (is_one : Bool) × UpgradesDistinct path new_path compared is_one disks before after reported left))

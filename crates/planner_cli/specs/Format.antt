-- The subcommand `format`: it makes an empty store in a file and prints the result.
use Rattle.std.specs.Prelude.{◌≡◌, ◌≢◌, ◌⊎◌, ℕ, ◌+◌, List, [], Option, Some, None, Result, IfErr, IfOk, OnOk}
use Rattle.std.specs.Result.{result_err}
use Rattle.checkpoint.specs.Holds.{Holds}
use Rattle.checkpoint.specs.Layouts.{version_2, sectors_in}
use Rattle.checkpoint.specs.Moments.{IsInFormat}
use Rattle.checkpoint.specs.Places.{first_place}
use Rattle.checkpoint.specs.Refusals.{IsKeptByFormat, OnCalls, faults_after_format}
use Rattle.checkpoint.specs.Stores.{IsUnformatted}
use Rattle.checkpoint.specs.declared.faults.FormatFault.{FormatFault}
use Rattle.checkpoint.specs.declared.faults.FormatFault.TheVariants.{TooSmall}
use Rattle.checkpoint.specs.declared.places.Place.{Place}
use Rattle.command_types.specs.declared.states.State.{State}
use Rattle.command_types.specs.declared.states.State.TheVariants.{Empty}
use Rattle.command_server.specs.Streams.{Stream}
use Rattle.planner_cli.specs.Messages.{PrintsFormatResult, PrintsText, file_fault_line, file_fault_status, format_fault_line}
use Rattle.file_disk.specs.DeviceFiles.{IsNotCreatedAt}
use Rattle.sector_disk.specs.Sectors.{Throughout}
use Rattle.file_disk.specs.declared.file_device.FileFault.{FileFault}
use Rattle.file_disk.specs.declared.file_device.FileFault.TheVariants.{BadLength}
use Rattle.file_disk.specs.declared.file_device.OpenError.{OpenError}
use Rattle.sector_disk.specs.declared.sectors.Sectors as sectors
use Rattle.state_codec.specs.declared.version.Version.TheVariants.{Two}

module _ {D : Type 0} (on : sectors.Ghosts D) where
  -- Making a store with this state on the device ended with this result. After `Ok`, if the device is honest,
  -- each image that a crash may leave holds that store.
  pub record IsMadeWith (state : State) (old new : D) (made : Result Place FormatFault) : Type 0 where
    pub holds : on.honest new → OnOk made ((image : List ℕ) → on.possible new image → Holds Two image state [] first_place)
    pub place : IfOk made (λ place. place ≡ first_place)
    pub moments : on.honest new
        → OnCalls made (Throughout on.clock on.possible_since old new (IsInFormat (IsUnformatted version_2) (λ image. Holds Two image state [] first_place) (on.calls old)))
    pub kept : IfErr made (λ fault. IsKeptByFormat fault old new)
    pub honest : on.honest new → on.honest old
    pub finished : OnOk made (on.calls new ≡ on.calls old + 6)
    pub faults : on.faults new ≡ faults_after_format made (on.faults old)
    pub same_len : on.len new ≡ on.len old

  -- Making an empty store on the device ended with this result.
  abbrev pub IsFormatted : D → D → Result Place FormatFault → Type 0
  IsFormatted = IsMadeWith Empty

  -- A store with this state is made in a file of 8,450 sectors at the path, or no file is made. `Told` relates
  -- the result to the number of finished device calls when it is printed, and `ReportedNone` holds for the reason
  -- why no file is made. `IsNew` says what is known about the device over the file, and `left` is the device
  -- afterwards.
  abbrev pub MakesStoreAt : (List ℕ → D → Type 0) → State → List ℕ → (Result Place FormatFault → ℕ → Type 0) → (FileFault → Type 0) → Option D → Type 0
  MakesStoreAt IsNew state path Told ReportedNone left =
      ((old : D) × (new : D) × (made : Result Place FormatFault) × (left ≡ Some new) × IsNew path old × (on.len old ≡ sectors_in version_2) × IsMadeWith state old new made
      × (result_err made ≢ Some TooSmall) × Told made (on.calls new))
      ⊎ ((refusal : OpenError) × (left ≡ None) × IsNotCreatedAt (sectors_in version_2) path refusal × (refusal.fault ≢ BadLength) × ReportedNone refusal.fault)

  -- The empty store is made, and the result is printed. `ok` is written after all device calls that made the
  -- store have finished. The last of them is a sync, so every crash image then holds the store.
  abbrev pub FormatsStore : {E : Type 0} → (List ℕ → D → Type 0) → List ℕ → Stream → Stream → Result ℕ E → Option D → Type 0
  FormatsStore IsNew path before after reported left =
      MakesStoreAt IsNew Empty path (λ made calls. PrintsFormatResult format_fault_line made calls before after reported)
      (λ fault. PrintsText (file_fault_line path fault) (file_fault_status fault) before.contents after.contents reported) left

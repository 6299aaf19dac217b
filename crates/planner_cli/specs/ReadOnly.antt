-- A store in a file that is opened for reading only.
use Rattle.std.specs.Prelude.{ℕ, List, Result, Ok, Err, IfErr, IfOk, MatchResult}
use Rattle.checkpoint.specs.InvalidImages.{IsLoadFault, UnlessReadFailed}
use Rattle.checkpoint.specs.declared.faults.StoreFault.{StoreFault}
use Rattle.command_types.specs.States.{IsState}
use Rattle.command_types.specs.declared.states.State.{State}
use Rattle.planner_cli.specs.declared.read_only.ReadOnlyStore.{ReadOnlyStore}
use Rattle.planner_cli.specs.declared.opening.OpenFailure.{OpenFailure}
use Rattle.planner_cli.specs.declared.opening.OpenFailure.TheVariants.{File, Store, FormatFailed}
use Rattle.recover.specs.Opening.{IsOnlyRead, RecoversToNothing}
use Rattle.recover.specs.RecoversTo.{RecoversTo}
use Rattle.file_disk.specs.DeviceFiles.{IsNotOpenedReadOnlyAt}
use Rattle.sector_disk.specs.declared.sectors.Sectors as sectors
use Rattle.state_codec.specs.declared.version.Version.TheVariants.{Two}

module _ {D : Type 0} (on : sectors.Ghosts D) where
  -- The result of reading the store on this device: its state, or the reason why there is none. The device was
  -- only read. So a fault of the device is reported exactly if one more of its calls has failed.
  pub record LoadsState (device : D) (looked : Result State StoreFault) (left : D) : Type 0 where
    pub given : on.honest left → MatchResult looked (RecoversTo Two (on.seen device)) (UnlessReadFailed (RecoversToNothing Two (on.seen device)))
    pub facts : IfOk looked IsState
    pub fails : IfErr looked IsLoadFault
    pub reads : IsOnlyRead on looked device left

  -- ---- In a file: `IsShared` says what is known about the device over it

  -- The state was read from some device for which `IsShared` holds.
  pub record IsReadFrom (IsShared : D → Type 0) (looked : ReadOnlyStore D) : Type 0 where
    pub device : D
    pub shared : IsShared device
    pub looks : LoadsState device (Ok looked.state) looked.device

  -- Reading the state from some device for which `IsShared` holds failed with this fault.
  pub record IsReadFailureFrom (IsShared : D → Type 0) (fault : StoreFault) (left : D) : Type 0 where
    pub device : D
    pub shared : IsShared device
    pub looks : LoadsState device (Err fault) left

  -- The reason why the state of the store at a path was not read: its file was not opened, or reading failed.
  abbrev pub IsReadOnlyFailure : (List ℕ → D → Type 0) → List ℕ → OpenFailure D → Type 0
  IsReadOnlyFailure IsShared path (File refusal) = IsNotOpenedReadOnlyAt path refusal
  IsReadOnlyFailure IsShared path (Store fault left) = IsReadFailureFrom (IsShared path) fault left
  IsReadOnlyFailure IsShared path (FormatFailed fault left) = ⊥

  -- The result of opening the store at a path for reading only: its state, or the reason why it was not read.
  abbrev pub IsReadOnlyOpening : (List ℕ → D → Type 0) → List ℕ → Result (ReadOnlyStore D) (OpenFailure D) → Type 0
  IsReadOnlyOpening IsShared path looked = MatchResult looked (IsReadFrom (IsShared path)) (IsReadOnlyFailure IsShared path)

  -- The state of the store in the file at a path was read, and `OnLooked` holds for it; or it was not read, and
  -- `OnUnopened` holds for the reason.
  abbrev pub OpensReadOnly : (List ℕ → D → Type 0) → List ℕ → (ReadOnlyStore D → Type 0) → (OpenFailure D → Type 0) → Type 0
  OpensReadOnly IsShared path OnLooked OnUnopened = (looked : Result (ReadOnlyStore D) (OpenFailure D)) × IsReadOnlyOpening IsShared path looked × MatchResult looked OnLooked OnUnopened

-- The subcommand `load`: it reads an instance and loads it into the store in a file, which it makes if there is
-- none. `reported` is the exit status, or an error if printing the answer failed; everything else holds in both
-- cases. If the program tried to open the store and printing failed, at most a prefix of the answer was written.
use Rattle.std.specs.Prelude.{◌≡◌, ◌⊎◌, ℕ, Bool, true, false, List, ◌∷◌, codes, Option, Some, None, Result, Ok, Err, IfOk, MatchResult, OnOk}
use Rattle.std.specs.declared.io.ErrorKind.{ErrorKind}
use Rattle.plan_types.specs.Instance.{Instance}
use Rattle.instance_read.specs.Faults.{ReportsFirstFault}
use Rattle.instance_read.specs.declared.faults.ReadFault.{ReadFault}
use Rattle.command_core.specs.Effects.{effect}
use Rattle.command_types.specs.declared.commands.Command.{Command}
use Rattle.command_types.specs.declared.commands.Command.TheVariants.{Load}
use Rattle.command_types.specs.declared.states.State.{State}
use Rattle.command_types.specs.declared.states.State.TheVariants.{Empty, Loaded}
use Rattle.command_line.specs.Invocations.{LoadArgsValue}
use Rattle.command_server.specs.Streams.{Stream}
use Rattle.command_text.specs.Answers.{line}
use Rattle.instance_read.specs.Readings.{InstanceFault, SpellsInstance}
use Rattle.auditor_cli.specs.Reads.{FileRead}
use Rattle.planner_cli.specs.StoreDevices.{IsLeftOnFailure, no_devices}
use Rattle.planner_cli.specs.Opening.{IsNewOpening, IsStoreOpening, open_failure_line, open_failure_status, needs_new_file}
use Rattle.planner_cli.specs.Messages.{PrintsAnswer, PrintsInstanceFault, PrintsText, denial_status}
use Rattle.planner_cli.specs.declared.store_devices.StoreDevices.{StoreDevices}
use Rattle.planner_cli.specs.declared.opening.OpenFailure.{OpenFailure}
use Rattle.auditor_cli.specs.Messages.{PrintsReadFailure}
use Rattle.recover.specs.Applying.{IsApplied}
use Rattle.recover.specs.Sessions.{SessionValue}
use Rattle.recover.specs.RecoversTo.{RecoversTo}
use Rattle.recover.specs.declared.opening.Opened.{Opened}
use Rattle.recover.specs.declared.replies.Reply.{Reply}
use Rattle.file_disk.specs.DeviceFiles.{FileRequestEntry}
use Rattle.file_disk.specs.declared.device_files.FileRequest.TheVariants.{Create, OpenExisting}
use Rattle.sector_disk.specs.declared.sectors.Sectors as sectors
use Rattle.state_codec.specs.declared.version.Version.TheVariants.{Two}

-- Whether an instance is loaded in this state.
abbrev pub holds_instance : State → Bool
holds_instance Empty = false
holds_instance (Loaded job) = true

-- The line `store Loaded` is printed, with status 2: the store already holds an instance.
abbrev pub PrintsAlreadyLoaded : {X : Type 0} → Option (List ℕ) → Option (List ℕ) → Result ℕ X → Type 0
PrintsAlreadyLoaded before after reported = PrintsText (line (codes "store Loaded")) 2 before after reported

-- `left` is the device afterwards.
module _ {D X : Type 0} (on : sectors.Ghosts D) where
  -- The session already holds an instance. The session and its device stay as they are.
  pub record IsAlreadyLoaded (session : SessionValue D) (before after : Stream) (left : D) (reported : Result ℕ X) : Type 0 where
    pub held : holds_instance session.state ≡ true
    pub same : left ≡ session.device
    pub tells : PrintsAlreadyLoaded before.contents after.contents reported

  -- The session was empty and answered the command. After `Ok`, if the device is honest, every crash image
  -- recovers to the state after the command. `ok` is written after all device calls of the command have finished.
  pub record IsLoaded (old : SessionValue D) (command : Command) (before after : Stream) (left : D) (reported : Result ℕ X) : Type 0 where
    pub empty : old.state ≡ Empty
    pub reply : Reply
    pub new : SessionValue D
    pub applied : IsApplied on.len on.calls on.faults on.honest on.clock on.possible_since on.possible old command reply new
    pub device : left ≡ new.device
    pub recovers : OnOk reply.answer (on.honest left → (image : List ℕ) → on.possible left image → RecoversTo Two image (effect Empty command))
    pub tells : PrintsAnswer denial_status reply.answer (on.calls new.device) before after reported

  -- The session answers the command, unless it already holds an instance.
  abbrev pub LoadsSession : SessionValue D → Command → Stream → Stream → D → Result ℕ X → Type 0
  LoadsSession session command before after left reported = IsAlreadyLoaded session before after left reported ⊎ IsLoaded session command before after left reported

  -- Either the store was opened, and its session answers the command or already holds an instance. Or the reason
  -- why the store was not opened is printed.
  abbrev pub LoadsOpening : Result (Opened D) (OpenFailure D) → List ℕ → Command → Stream → Stream → Result ℕ X → Option D → Type 0
  LoadsOpening opening path command before after reported left =
      MatchResult opening (λ opened. (device : D) × (left ≡ Some device) × LoadsSession opened.session command before after device reported)
      (λ unopened. IsLeftOnFailure on unopened left × PrintsText (open_failure_line path unopened) (open_failure_status unopened) before.contents after.contents reported)

-- The requests for store files before a subcommand and after it, the newest first.
pub record DiskRequests : Type 0 where
  pub was : List FileRequestEntry
  pub now : List FileRequestEntry

module _ {D E X : Type 0} (on_old : sectors.Ghosts D) (on_new : sectors.Ghosts E) (IsOld : List ℕ → D → Type 0) (IsNew : List ℕ → E → Type 0) (disks : DiskRequests) where
  -- The file at the path exists, and the instance is loaded into the store in it. No other file is requested.
  abbrev pub LoadsExistingFile : List ℕ → Command → Result (Opened D) (OpenFailure D) → Stream → Stream → Result ℕ X → StoreDevices D E → Type 0
  LoadsExistingFile path command opening before after reported left =
      (needs_new_file on_old opening ≡ false) × (disks.now ≡ (OpenExisting, path) ∷ disks.was) × (left.new_store ≡ None) × LoadsOpening on_old opening path command before after reported left.store

  -- There was no file at the path, or an empty one. The instance is loaded into the store in a new file.
  abbrev pub LoadsNewFile : List ℕ → Command → Result (Opened D) (OpenFailure D) → Stream → Stream → Result ℕ X → StoreDevices D E → Type 0
  LoadsNewFile path command opening before after reported left =
      (needs_new_file on_old opening ≡ true) × (disks.now ≡ (Create, path) ∷ (OpenExisting, path) ∷ disks.was) × (left.store ≡ None)
      × ((made : Result (Opened E) (OpenFailure E)) × IsNewOpening on_new IsNew path made × LoadsOpening on_new made path command before after reported left.new_store)

  -- The file at the path is opened first. `IsOld` and `IsNew` say what is known about the devices over the
  -- existing and over the new file.
  abbrev pub LoadsStore : List ℕ → Command → Stream → Stream → Result ℕ X → StoreDevices D E → Type 0
  LoadsStore path command before after reported left =
      (opening : Result (Opened D) (OpenFailure D)) × IsStoreOpening on_old IsOld path opening
      × (LoadsExistingFile path command opening before after reported left ⊎ LoadsNewFile path command opening before after reported left)

  -- The text is parsed and its instance loaded into the store; or its first fault is printed, and no store is
  -- opened.
  abbrev pub LoadsText : LoadArgsValue → List ℕ → Stream → Stream → Result ℕ X → StoreDevices D E → Type 0
  LoadsText requested text before after reported left =
      (found : Result Instance ReadFault)
      × MatchResult found (λ problem. SpellsInstance requested.format text problem × LoadsStore requested.store (Load problem requested.seed) before after reported left)
      (λ fault. ReportsFirstFault (InstanceFault requested.format text) fault × (disks.now ≡ disks.was) × (left ≡ no_devices) × IfOk reported (PrintsInstanceFault fault before.contents after.contents))

  -- The instance's file is read first, and its text is loaded; or a line says that the file can't be read.
  abbrev pub LoadsInstance : LoadArgsValue → List FileRead → List FileRead → Stream → Stream → Result ℕ X → StoreDevices D E → Type 0
  LoadsInstance requested was now before after reported left =
      ((x : List ℕ) × (now ≡ (requested.instance, Ok x) ∷ was) × LoadsText requested x before after reported left)
      ⊎ ((error : ErrorKind) × (now ≡ (requested.instance, Err error) ∷ was) × (disks.now ≡ disks.was) × (left ≡ no_devices) × IfOk reported (PrintsReadFailure requested.instance error before.contents after.contents))

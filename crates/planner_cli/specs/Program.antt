-- The program: the files that each subcommand reads and makes, its output, its standard error, and its exit
-- status.
use Rattle.std.specs.Prelude.{◌≡◌, ◌⊎◌, ℕ, Bool, true, List, ◌∷◌, Option, None, Result, IfOk, MatchResult}
use Rattle.std.specs.declared.io.Error.{Error}
use Rattle.clap.specs.Words.{Text}
use Rattle.command_line.specs.Invocations.{InvocationValue, IsUsageStatus, adopt, asks_help, audit, audits, built_in, check}
use Rattle.command_line.specs.Invocations.{draw, draw_store, explain, format, load, run, solve, solves, store_instance, store_timetable, timetable, upgrade}
use Rattle.plan_types.specs.declared.requests.Kind.TheVariants.{LiLim}
use Rattle.instance_read.specs.Formats.{format_of}
use Rattle.command_server.specs.TrackedStream.{held, reads_of, still_known}
use Rattle.command_server.specs.Streams.{InputRecord, Stream}
use Rattle.auditor_cli.specs.IgnoredLines.{PrintsIgnored}
use Rattle.planner_cli.specs.Adopt.{AdoptsSolution}
use Rattle.planner_cli.specs.Check.{ChecksStore}
use Rattle.planner_cli.specs.Draw.{DrawsStore, DrawsFiles}
use Rattle.auditor_cli.specs.Explain.{ExplainsFiles}
use Rattle.auditor_cli.specs.Files.{AreReadInTurn, PrintsFiles}
use Rattle.planner_cli.specs.Format.{FormatsStore}
use Rattle.auditor_cli.specs.Audits.{PrintsList}
use Rattle.planner_cli.specs.StoreDevices.{no_devices}
use Rattle.planner_cli.specs.Load.{DiskRequests, LoadsInstance}
use Rattle.auditor_cli.specs.Reads.{FileRead, FileWrite, IsGrown, IsRead, IsReadFirst}
use Rattle.planner_cli.specs.Run.{RunsStore, ServesStore}
use Rattle.planner_cli.specs.Solves.{FileEffects, SolvesList}
use Rattle.planner_cli.specs.Solve.{SolvesInstance}
use Rattle.planner_cli.specs.Statuses.{CanEndWith}
use Rattle.auditor_cli.specs.Messages.{PrintsAudit, example_instance, example_solution}
use Rattle.planner_cli.specs.Timetable.{TimetablesFiles, TimetablesStore, form_of}
use Rattle.planner_cli.specs.Upgrade.{UpgradesStore}
use Rattle.planner_cli.specs.PrintInstance.{WritesStore}
use Rattle.planner_cli.specs.declared.store_devices.StoreDevices.{StoreDevices}
use Rattle.planner_cli.specs.declared.program.Streams.{Streams}
use Rattle.file_disk.specs.DeviceFiles.{FileRequestEntry}
use Rattle.file_disk.specs.declared.device_files.FileRequest.TheVariants.{Create, OpenReadOnly, OpenExisting}
use Rattle.sector_disk.specs.declared.sectors.Sectors as sectors

-- The reads and writes of the program, as far as they are known. `files` are the files that were read,
-- `new_files` those that were to be made (apart from stores), and `disks` the requests for store files; each list
-- has the newest entry first. `input` is the rest of the input, and `reads` has the bytes that each read of it
-- returned, newest first. `output` has the contents of the output, and the writes and flushes on it. `errors` is
-- the content of standard error, without the system's errors and the hints, which no clause covers. The last two
-- fields say whether a call of the input or of the output has failed.
pub record World : Type 0 where
  pub files : List FileRead
  pub new_files : List FileWrite
  pub disks : List FileRequestEntry
  pub input : Option (List ℕ)
  pub reads : List (List ℕ)
  pub output : Stream
  pub errors : Option (List ℕ)
  pub input_failed : Bool
  pub output_failed : Bool

-- The world that the ghost members of the types `F`, `N`, `X`, `I`, `W` and `E` record.
abbrev pub seen : {F N X I W E : Type 0} → (F → List FileRead) → (N → List FileWrite) → (X → List FileRequestEntry) → (I → Option (List ℕ)) → (W → Option (List ℕ))
    → (E → Option (List ℕ)) → F → N → X → Streams I W E → World
seen reads writes requested remaining written reported files new_files disks streams = record {
  files = reads files;
  new_files = writes new_files;
  disks = requested disks;
  input = still_known remaining streams.input;
  reads = reads_of streams.input;
  output = held written streams.output;
  errors = reported streams.errors;
  input_failed = streams.input.has_failed;
  output_failed = streams.output.has_failed;
}

-- The input of a subcommand, as far as the worlds before and after it show it.
abbrev pub given_in : World → World → InputRecord
given_in old new = record { known = old.input; before = old.reads; after = new.reads }

-- The files that were read and those that were to be made, and the content of standard error.
abbrev pub done_in : World → FileEffects
done_in w = record { reads = w.files; writes = w.new_files; errors = w.errors }

-- The requests for store files, before a subcommand and after it.
abbrev pub disks_in : World → World → DiskRequests
disks_in old new = record { was = old.disks; now = new.disks }

-- The files that a subcommand reads, whether or not its answer can be printed.
abbrev pub AreReadFor : InvocationValue → List FileRead → List FileRead → Type 0
AreReadFor built_in was now = now ≡ was
AreReadFor (audit paths routes_alone) was now = AreReadInTurn paths.instance paths.solution was now
AreReadFor (audits kind list routes_alone) was now = IsReadFirst list was now
AreReadFor (explain paths routes_alone) was now = AreReadInTurn paths.instance paths.solution was now
AreReadFor (draw paths route) was now = AreReadInTurn paths.instance paths.solution was now
AreReadFor (draw_store store route) was now = now ≡ was
AreReadFor (solve task) was now = IsRead task.instance was now
AreReadFor (solves tasks) was now = IsReadFirst tasks.list was now
AreReadFor (format store) was now = now ≡ was
AreReadFor (load requested) was now = IsRead requested.instance was now
AreReadFor (run store is_strict) was now = now ≡ was
AreReadFor (adopt store solution) was now = IsRead solution was now
AreReadFor (store_instance store) was now = now ≡ was
AreReadFor (check store) was now = now ≡ was
AreReadFor (upgrade old new) was now = now ≡ was
AreReadFor (timetable paths is_tabbed) was now = AreReadInTurn paths.instance paths.solution was now
AreReadFor (store_timetable store is_tabbed) was now = now ≡ was

-- The files that a subcommand makes, apart from stores: only `solves` makes any.
abbrev pub AreMadeFor : InvocationValue → List FileWrite → List FileWrite → Type 0
AreMadeFor (solves tasks) was now = IsGrown was now
AreMadeFor _ was now = now ≡ was

-- The store files that a subcommand opens or makes, whether or not its answer can be printed. For `load`, `adopt`
-- and `upgrade` they depend on the contents of the files (`LoadsInstance`, `AdoptsSolution`, `UpgradesStore`).
abbrev pub AreRequestedFor : InvocationValue → List FileRequestEntry → List FileRequestEntry → Type 0
AreRequestedFor (draw_store store route) was now = now ≡ (OpenReadOnly, store) ∷ was
AreRequestedFor (format store) was now = now ≡ (Create, store) ∷ was
AreRequestedFor (load requested) was now = Unit {0}
AreRequestedFor (run store is_strict) was now = now ≡ (OpenExisting, store) ∷ was
AreRequestedFor (adopt store solution) was now = Unit {0}
AreRequestedFor (store_instance store) was now = now ≡ (OpenReadOnly, store) ∷ was
AreRequestedFor (check store) was now = now ≡ (OpenReadOnly, store) ∷ was
AreRequestedFor (upgrade old new) was now = Unit {0}
AreRequestedFor (store_timetable store is_tabbed) was now = now ≡ (OpenReadOnly, store) ∷ was
AreRequestedFor _ was now = now ≡ was

-- The input stays as it was, except for `run`, the only subcommand that reads it.
abbrev pub IsInputKept : InvocationValue → World → World → Type 0
IsInputKept (run store is_strict) old new = Unit {0}
IsInputKept _ old new = (new.input ≡ old.input) × (new.reads ≡ old.reads)

-- The stream `errors` stays as it was, except for the subcommands that are named here. Any subcommand may also
-- print the system's errors and hints on standard error, which no clause covers.
abbrev pub AreErrorsKept : InvocationValue → World → World → Type 0
AreErrorsKept (audit paths routes_alone) old new = Unit {0}
AreErrorsKept (audits kind list routes_alone) old new = Unit {0}
AreErrorsKept (explain paths routes_alone) old new = Unit {0}
AreErrorsKept (draw paths route) old new = Unit {0}
AreErrorsKept (draw_store store route) old new = Unit {0}
AreErrorsKept (solve task) old new = Unit {0}
AreErrorsKept (solves tasks) old new = Unit {0}
AreErrorsKept (load requested) old new = Unit {0}
AreErrorsKept (run store is_strict) old new = Unit {0}
AreErrorsKept (adopt store solution) old new = Unit {0}
AreErrorsKept (store_instance store) old new = Unit {0}
AreErrorsKept (timetable paths is_tabbed) old new = Unit {0}
AreErrorsKept (check store) old new = Unit {0}
AreErrorsKept (store_timetable store is_tabbed) old new = Unit {0}
AreErrorsKept _ old new = new.errors ≡ old.errors

-- The guarantee of `run`, the only subcommand that serves an input. It holds for every result: also if an answer
-- could not be printed, and for a run that is killed.
abbrev pub ServesFor : {D : Type 0} → sectors.Ghosts D → (List ℕ → D → Type 0) → InvocationValue → World → World → Option D → Type 0
ServesFor on IsOld (run store is_strict) old new left = ServesStore on IsOld store is_strict (given_in old new) old.output new.output new.input_failed new.output_failed left
ServesFor on IsOld _ old new left = Unit {0}

-- The devices that a subcommand leaves: the device over the store's file, which `Does` and `ServesFor` describe,
-- or none. For `load` and `upgrade`, `LoadsInstance` and `UpgradesStore` describe both devices.
abbrev pub AreLeftFor : {D N : Type 0} → InvocationValue → StoreDevices D N → Type 0
AreLeftFor (format store) left = left.new_store ≡ None
AreLeftFor (load requested) left = Unit {0}
AreLeftFor (run store is_strict) left = left.new_store ≡ None
AreLeftFor (adopt store solution) left = left.new_store ≡ None
AreLeftFor (upgrade old new) left = Unit {0}
AreLeftFor _ left = left ≡ no_devices

module _ {D N : Type 0} (on_old : sectors.Ghosts D) (on_new : sectors.Ghosts N) (IsOld IsShared IsNewFile : List ℕ → D → Type 0) (IsNew : List ℕ → N → Type 0) where
  -- The subcommand was executed and its answer printed, if that was possible: `reported` is the exit status, or
  -- the error of printing. `IsOld`, `IsShared` and `IsNewFile` say what is known about the device over the file
  -- at a path that is opened, opened for reading only, or made. `IsNew` says what is known about the device over
  -- a second file that is made. `left` are the devices afterwards: no call on them follows.
  abbrev pub Does : {X : Type 0} → InvocationValue → World → World → StoreDevices D N → Result ℕ X → Type 0
  Does built_in old new left reported = IfOk reported (PrintsAudit (format_of LiLim) example_instance example_solution old.output.contents new.output.contents)
  Does (audit paths routes_alone) old new left reported =
      IfOk reported
      (λ status. PrintsFiles routes_alone paths.format paths.instance paths.solution old.files new.files old.output.contents new.output.contents status
      × PrintsIgnored paths.format paths.instance paths.solution old.files new.files old.errors new.errors)
  Does (audits kind list routes_alone) old new left reported =
      IfOk reported (PrintsList routes_alone kind list old.files new.files old.output.contents new.output.contents old.errors new.errors)
  Does (explain paths routes_alone) old new left reported =
      IfOk reported
      (λ status. ExplainsFiles routes_alone paths.format paths.instance paths.solution old.files new.files old.output.contents new.output.contents status
      × PrintsIgnored paths.format paths.instance paths.solution old.files new.files old.errors new.errors)
  Does (draw paths route) old new left reported = IfOk reported (DrawsFiles paths.format route paths.instance paths.solution old.files new.files old.output.contents new.output.contents old.errors new.errors)
  Does (draw_store store route) old new left reported = IfOk reported (DrawsStore on_old IsShared store route old.output.contents new.output.contents old.errors new.errors)
  Does (solve task) old new left reported = IfOk reported (SolvesInstance task old.files new.files old.output.contents new.output.contents old.errors new.errors)
  Does (solves tasks) old new left reported =
      IfOk reported (SolvesList tasks (done_in old) (done_in new) old.output.contents new.output.contents)
  Does (format store) old new left reported = FormatsStore on_old IsNewFile store old.output new.output reported left.store
  Does (load requested) old new left reported = LoadsInstance on_old on_new IsOld IsNew (disks_in old new) requested old.files new.files old.output new.output reported left
  Does (run store is_strict) old new left reported = IfOk reported (RunsStore on_old IsOld store is_strict (given_in old new) old.output new.output new.input_failed new.output_failed)
  Does (adopt store solution) old new left reported = AdoptsSolution on_old IsOld (disks_in old new) store solution old.files new.files old.output new.output reported left.store
  Does (store_instance store) old new left reported = IfOk reported (WritesStore on_old IsShared store old.output.contents new.output.contents new.errors)
  Does (check store) old new left reported = IfOk reported (ChecksStore on_old IsShared store old.output.contents new.output.contents)
  Does (upgrade path new_path) old new left reported = UpgradesStore on_old on_new IsOld IsNew path new_path (disks_in old new) old.output new.output reported left
  Does (timetable paths is_tabbed) old new left reported =
      IfOk reported (TimetablesFiles paths.format (form_of is_tabbed) paths.instance paths.solution old.files new.files old.output.contents new.output.contents old.errors new.errors)
  Does (store_timetable store is_tabbed) old new left reported = IfOk reported (TimetablesStore on_old IsShared store (form_of is_tabbed) old.output.contents new.output.contents)

  -- The subcommand was executed, and everything that it does not change was left as it was. This holds whether or
  -- not the answer could be printed.
  pub record IsDone {X : Type 0} (requested : InvocationValue) (old new : World) (left : StoreDevices D N) (reported : Result ℕ X) : Type 0 where
    pub does : Does requested old new left reported
    pub serves : ServesFor on_old IsOld requested old new left.store
    pub leaves : AreLeftFor requested left
    pub reads : AreReadFor requested old.files new.files
    pub makes : AreMadeFor requested old.new_files new.new_files
    pub requests : AreRequestedFor requested old.disks new.disks
    pub input : IsInputKept requested old new
    pub errors : AreErrorsKept requested old new

  -- The command line was parsed and executed. If an answer could not be printed, the exit status is 3, and the
  -- effects of `format`, `load`, `adopt` and `upgrade` are stated nevertheless.
  pub record Works (requested : InvocationValue) (old new : World) (left : StoreDevices D N) (status : ℕ) : Type 0 where
    pub reported : Result ℕ Error
    pub ends : MatchResult reported (λ printed. status ≡ printed) (λ error. status ≡ 3)
    pub done : IsDone requested old new left reported
    pub statuses : CanEndWith requested status

  -- The command line was parsed and executed; or memory for parsing it ran out, and nothing was done.
  abbrev pub EndsWith : InvocationValue → World → World → StoreDevices D N → ℕ → Type 0
  EndsWith requested old new left status = Works requested old new left status ⊎ ((status ≡ 4) × (new ≡ old) × (left ≡ no_devices))

-- The command line requests help or has an error, and no file, store or input is touched. Status 0: help was
-- requested, and standard error is as it was. Status 64: the command line has an error, and the output is as it
-- was. Status 3: the message could not be printed. Status 4: memory ran out, and nothing was printed.
pub record PrintsUsage {D N : Type 0} (requested : List Text) (old new : World) (left : StoreDevices D N) (status : ℕ) : Type 0 where
  pub files : new.files ≡ old.files
  pub new_files : new.new_files ≡ old.new_files
  pub disks : new.disks ≡ old.disks
  pub devices : left ≡ no_devices
  pub input : new.input ≡ old.input
  pub reads : new.reads ≡ old.reads
  pub help : status ≡ 0 → new.errors ≡ old.errors
  pub mistake : status ≡ 64 → new.output ≡ old.output
  pub memory : status ≡ 4 → new ≡ old
  pub statuses : ((status ≡ 0) × (asks_help requested ≡ true)) ⊎ IsUsageStatus status

-- Opening or creating a file: its result, derived from the system calls that were made.
use Rattle.std.specs.Prelude.{◌≡◌, ◌⊎◌, ℕ, ◌+◌, ◌%◌, max, Bool, true, false, ◌&&◌, List, [], ◌∷◌, drop, Option, Some, None, is_none, Result, Ok, Err, IfOk, if◌then◌else◌, ◌==◌, IsTrue}
use Rattle.std.specs.Option.{option_or, option_map}
use Rattle.std.specs.IoError.{error_kind}
use Rattle.std.specs.declared.io.Error.{Error}
use Rattle.std.specs.declared.io.ErrorKind.{ErrorKind}
use Rattle.std.specs.declared.io.ErrorKind.TheVariants as kind
use Rattle.file_disk.specs.declared.file_device.FileFault.{FileFault}
use Rattle.file_disk.specs.declared.file_device.FileFault.TheVariants as faults
use Rattle.file_disk.specs.declared.opened_file.OpeningFault.{OpeningFault}
use Rattle.system_calls.specs.declared.system_call.Access.{Access}
use Rattle.system_calls.specs.declared.system_call.Access.TheVariants.{Read, Write, Create}
use Rattle.system_calls.specs.declared.system_call.SystemCall.{SystemCall}
use Rattle.system_calls.specs.declared.system_call.SystemCall.TheVariants.{
  Find,
  FindFailed,
  Open,
  Lock,
  Measure,
  MeasureFailed,
  SetLen,
  ReadAt,
  ReadAtFailed,
  WriteAt,
  WriteAtFailed,
  SyncAll,
  OpenFolder,
  SyncFolder,
}
use Rattle.system_calls.specs.SystemCalls.{RecordedCall, is_memory, answered}
use Rattle.system_calls.specs.FolderSync.{folder_error, folder_of}
use Rattle.file_disk.specs.Creation.{Measured, creation_state, is_unsafe}

-- The fault for an error of the system.
abbrev pub fault_of : ErrorKind → FileFault
fault_of kind = if is_memory kind then faults.OutOfMemory else faults.NoFile

abbrev pub is_in_use : ErrorKind → Bool
is_in_use kind.WouldBlock = true
is_in_use _ = false

-- A fault, and the system's error if it is reported with it.
pub record Failure : Type 0 where
  pub fault : FileFault
  pub cause : Option ErrorKind

abbrev pub failure_of : ErrorKind → Failure
failure_of kind = record { fault = fault_of kind; cause = Some kind }

-- A fault with the error that is reported with it.
abbrev pub failure_by : FileFault → Option Error → Failure
failure_by fault cause = record { fault = fault; cause = option_map error_kind cause }

abbrev pub without_cause : FileFault → Failure
without_cause fault = record { fault = fault; cause = None }

-- The failure of a lock that was not taken: another process or device holds it, or the call failed otherwise.
abbrev pub lock_failure : ErrorKind → Failure
lock_failure kind = if is_in_use kind then without_cause faults.InUse else failure_of kind

-- The failure of a call; None if it did what was requested.
abbrev pub failure_in : SystemCall → Option Failure
failure_in (Find is_file) = if is_file then None else Some (without_cause faults.NoFile)
failure_in (FindFailed kind) = Some (failure_of kind)
failure_in (Open access failed) = option_map failure_of failed
failure_in (Lock is_shared failed) = option_map lock_failure failed
failure_in (Measure is_file len) = if is_file then None else Some (without_cause faults.NoFile)
failure_in (MeasureFailed kind) = Some (failure_of kind)
failure_in (SetLen len failed) = option_map failure_of failed
failure_in (WriteAtFailed offset kind) = Some (failure_of kind)
failure_in (SyncAll failed) = option_map failure_of failed
failure_in (OpenFolder failed) = option_map failure_of failed
failure_in (SyncFolder failed) = option_map failure_of (folder_error failed)
failure_in _ = None

-- The failure of the first call that failed.
abbrev pub first_failure : List RecordedCall → Option Failure
first_failure [] = None
first_failure (call ∷ earlier) = option_or (first_failure earlier) (failure_in call.0)

abbrev pub len_if : Option ErrorKind → ℕ → Option ℕ → Option ℕ
len_if None len before = Some len
len_if (Some kind) len before = before

-- The file's length after a call, if it is known.
abbrev pub len_by : SystemCall → Option ℕ → Option ℕ
len_by (Measure is_file len) before = Some len
len_by (SetLen len failed) before = len_if failed len before
len_by (WriteAt offset moved) before = option_map (max (offset + moved)) before
len_by _ before = before

abbrev pub len_after : List RecordedCall → Option ℕ
len_after [] = None
len_after (call ∷ earlier) = len_by call.0 (len_after earlier)

-- The failure of a file whose length is not a whole number of sectors.
abbrev pub len_failure : Option ℕ → Option Failure
len_failure None = None
len_failure (Some len) = if len % 512 == 0 then None else Some (without_cause faults.BadLength)

-- The files and folders that the calls opened, by path, the newest first. Each file has its access mode.
pub record OpenedPaths : Type 0 where
  pub files : List (Access × List ℕ)
  pub folders : List (List ℕ)

-- The effects of the calls on files: which files and folders they opened, and whether they truncated, wrote or
-- synced one.
pub record FileEffects : Type 0 where
  pub opened : OpenedPaths
  pub is_changed : Bool

abbrev pub no_effects : FileEffects
no_effects = record { opened = record { files = []; folders = [] }; is_changed = false }

abbrev pub with_file : Access → List ℕ → OpenedPaths → OpenedPaths
with_file access path before = record { files = (access, path) ∷ before.files; folders = before.folders }

abbrev pub with_folder : List ℕ → OpenedPaths → OpenedPaths
with_folder path before = record { files = before.files; folders = path ∷ before.folders }

abbrev pub with_opened : Access → List ℕ → FileEffects → FileEffects
with_opened access path before = record { opened = with_file access path before.opened; is_changed = before.is_changed }

abbrev pub with_change : FileEffects → FileEffects
with_change before = record { opened = before.opened; is_changed = true }

abbrev pub effects_of : SystemCall → List ℕ → FileEffects → FileEffects
effects_of (Find is_file) path before = before
effects_of (FindFailed kind) path before = before
effects_of (Open access failed) path before = with_opened access path before
effects_of (Lock is_shared failed) bytes before = before
effects_of (Measure is_file len) bytes before = before
effects_of (MeasureFailed kind) bytes before = before
effects_of (ReadAt offset moved) bytes before = before
effects_of (ReadAtFailed offset kind) bytes before = before
effects_of (OpenFolder failed) path before = record { opened = with_folder path before.opened; is_changed = true }
effects_of _ bytes before = with_change before

abbrev pub effects_in : List RecordedCall → FileEffects
effects_in [] = no_effects
effects_in (call ∷ earlier) = effects_of call.0 call.1 (effects_in earlier)

abbrev pub opened_in : List RecordedCall → OpenedPaths
opened_in calls = (effects_in (answered calls)).opened

-- The failure of opening an existing file: the first failure of its calls, else that of its length.
abbrev pub taking_failure : List RecordedCall → Option Failure
taking_failure calls = option_or (first_failure (answered calls)) (len_failure (len_after (answered calls)))

abbrev pub is_file_sync : SystemCall → Bool
is_file_sync (SyncAll failed) = is_none failed
is_file_sync _ = false

abbrev pub is_folder_sync : SystemCall → Bool
is_folder_sync (SyncFolder failed) = true
is_folder_sync _ = false

abbrev pub is_folder_synced : List RecordedCall → Bool
is_folder_synced [] = false
is_folder_synced (call ∷ earlier) = is_folder_sync call.0

-- The newest call synced the file.
abbrev pub is_file_synced : List RecordedCall → Bool
is_file_synced [] = false
is_file_synced (call ∷ earlier) = is_file_sync call.0

-- The newest calls synced the file, opened its folder and synced the folder.
abbrev pub is_synced : List RecordedCall → Bool
is_synced calls = is_file_synced (drop 2 calls) && is_folder_synced calls

-- The failure that a step of an opening reports, if any.
abbrev pub failure_reported : {T : Type 0} → Result T OpeningFault → Option Failure
failure_reported (Ok _) = None
failure_reported (Err refusal) = Some (failure_by refusal.fault refusal.cause)

-- The file was measured under its lock and was `old` bytes long. Nothing that is to be kept was changed since.
abbrev pub KeepsBytes : ℕ → ℕ → List RecordedCall → Type 0
KeepsBytes old len calls = creation_state len (answered calls) ≡ Measured old

-- No call has failed so far. The file was measured under its lock, is `old` bytes long, and gets the length
-- `len`.
pub record HasLen (calls : List RecordedCall) (old len : ℕ) : Type 0 where
  pub no_fault : first_failure (answered calls) ≡ None
  pub length : len_after (answered calls) ≡ Some old
  pub kept : KeepsBytes old len calls

-- A step that sets the length of a file that was `old` bytes long. It reports its failure, or the file has the
-- length. It opened no other file.
pub record IsResized {T : Type 0} (result : Result T OpeningFault) (earlier calls : List RecordedCall) (old len : ℕ) : Type 0 where
  pub reported : first_failure (answered calls) ≡ failure_reported result
  pub length : IfOk result (λ done. len_after (answered calls) ≡ Some len)
  pub opened : opened_in calls ≡ opened_in earlier
  pub kept : KeepsBytes old len calls

-- A step that opens and syncs the folder of the file at this path, and changes no file.
pub record OpensOnlyFolder (path : List ℕ) (earlier calls : List RecordedCall) : Type 0 where
  pub length : len_after (answered calls) ≡ len_after (answered earlier)
  pub opened : opened_in calls ≡ with_folder (folder_of path) (opened_in earlier)
  pub kept : (old len : ℕ) → KeepsBytes old len earlier → KeepsBytes old len calls

-- ---- the file at a path

-- Readers share the lock with other readers.
abbrev pub is_shared : Access → Bool
is_shared Read = true
is_shared _ = false

-- The calls before the opening. For reading, it is first checked that the path leads to a plain file, since
-- opening another kind of file could block.
abbrev pub finding_calls : Access → List ℕ → List RecordedCall
finding_calls Read path = (Find true, path) ∷ []
finding_calls _ path = []

-- The calls that open the file with this access, lock it and measure it, the newest first.
abbrev pub opening_calls : Access → List ℕ → ℕ → List RecordedCall
opening_calls access path len = (Measure true len, []) ∷ (Lock (is_shared access) None, []) ∷ (Open access None, path) ∷ finding_calls access path

-- These calls were made and no others, so nothing was truncated or written. The file has this length, which is
-- a whole number of sectors.
pub record IsOpened (access : Access) (path : List ℕ) (calls : List RecordedCall) (len : ℕ) : Type 0 where
  pub only : calls ≡ opening_calls access path len
  pub no_fault : taking_failure calls ≡ None
  pub length : len_after (answered calls) ≡ Some len

-- No other file was opened, and nothing was truncated or written. With read access the file may not even be
-- opened, if no plain file was found.
abbrev pub HasOnlyOpened : Access → List ℕ → FileEffects → Type 0
HasOnlyOpened Read path touched = (touched ≡ no_effects) ⊎ (touched ≡ with_opened Read path no_effects)
HasOnlyOpened access path touched = touched ≡ with_opened access path no_effects

-- The file was not opened, because of the failure that the calls report.
pub record IsNotOpened (access : Access) (path : List ℕ) (calls : List RecordedCall) (failure : Failure) : Type 0 where
  pub reported : taking_failure calls ≡ Some failure
  pub touched : HasOnlyOpened access path (effects_in (answered calls))

-- The existing file was opened for reading and writing. Below, `IsNotOpenedExisting`: it was not opened. In
-- both cases no file was created.
abbrev pub IsOpenedExisting : List ℕ → List RecordedCall → ℕ → Type 0
IsOpenedExisting path calls len = IsOpened Write path calls len

abbrev pub IsNotOpenedExisting : List ℕ → List RecordedCall → Failure → Type 0
IsNotOpenedExisting path calls failure = IsNotOpened Write path calls failure

-- The existing file was opened for reading only. Below, `IsNotOpenedReadOnly`: it was not opened.
abbrev pub IsOpenedReadOnly : List ℕ → List RecordedCall → ℕ → Type 0
IsOpenedReadOnly path calls len = IsOpened Read path calls len

abbrev pub IsNotOpenedReadOnly : List ℕ → List RecordedCall → Failure → Type 0
IsNotOpenedReadOnly path calls failure = IsNotOpened Read path calls failure

-- The file was opened, and created if there was none, and no other file was opened. Its lock was taken before
-- it was changed, and it keeps its old bytes up to its new length. Its length was set, and then it and its
-- folder were synced.
pub record IsCreated (path : List ℕ) (calls : List RecordedCall) (len : ℕ) : Type 0 where
  pub no_fault : first_failure (answered calls) ≡ None
  pub opened : opened_in calls ≡ record { files = (Create, path) ∷ []; folders = folder_of path ∷ [] }
  pub old : ℕ
  pub kept : KeepsBytes old len calls
  pub length : len_after (answered calls) ≡ Some len
  pub synced : IsTrue (is_synced (answered calls))

-- The file was not created with this length, because of the failure that the calls report. The calls opened no
-- other file, changed this one only under its lock, and kept its old bytes up to this length.
pub record IsNotCreated (path : List ℕ) (calls : List RecordedCall) (len : ℕ) (failure : Failure) : Type 0 where
  pub reported : first_failure (answered calls) ≡ Some failure
  pub files : (opened_in calls).files ≡ (Create, path) ∷ []
  pub kept : is_unsafe (creation_state len (answered calls)) ≡ false

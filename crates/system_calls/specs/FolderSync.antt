-- The sync of a file's folder, by which the file's name becomes durable.
use Rattle.std.specs.Prelude.{◌≡◌, Bool, true, false, ℕ, List, [], ◌∷◌, Option, Some, None, if◌then◌else◌, codes}
use Rattle.std.specs.Path.{path_parent}
use Rattle.std.specs.declared.io.ErrorKind.{ErrorKind}
use Rattle.std.specs.declared.io.ErrorKind.TheVariants as kind
use Rattle.system_calls.specs.declared.system_call.SystemCall.TheVariants.{OpenFolder, SyncFolder}
use Rattle.system_calls.specs.SystemCalls.{RecordedCall}

-- The folder of the file at a path: the part before its name, or the current folder.
abbrev pub folder_or_here : Option (List ℕ) → List ℕ
folder_or_here None = codes "."
folder_or_here (Some []) = codes "."
folder_or_here (Some (byte ∷ bytes)) = byte ∷ bytes

abbrev pub folder_of : List ℕ → List ℕ
folder_of path = folder_or_here (path_parent path)

-- The error of a file system that can't sync a folder.
abbrev pub is_not_offered : ErrorKind → Bool
is_not_offered kind.InvalidInput = true
is_not_offered _ = false

-- The error to report for a sync of a folder with this answer: none if the file system can't sync a folder.
abbrev pub folder_error : Option ErrorKind → Option ErrorKind
folder_error None = None
folder_error (Some kind) = if is_not_offered kind then None else Some kind

-- The calls on the folder: it was opened with this answer and, if that succeeded, synced with the second one.
abbrev pub folder_calls : List ℕ → Option ErrorKind → Option ErrorKind → List RecordedCall → List RecordedCall
folder_calls folder None synced earlier = (SyncFolder synced, []) ∷ (OpenFolder None, folder) ∷ earlier
folder_calls folder (Some kind) synced earlier = (OpenFolder (Some kind), folder) ∷ earlier

abbrev pub folder_calls_error : Option ErrorKind → Option ErrorKind → Option ErrorKind
folder_calls_error None synced = folder_error synced
folder_calls_error (Some kind) synced = Some kind

-- These calls on the folder were made and no others, and they had this error.
pub record IsFolderSynced (folder : List ℕ) (error : Option ErrorKind) (earlier calls : List RecordedCall) : Type 0 where
  pub opened : Option ErrorKind
  pub synced : Option ErrorKind
  pub only : calls ≡ folder_calls folder opened synced earlier
  pub reported : error ≡ folder_calls_error opened synced

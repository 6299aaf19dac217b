-- Requests for the files of devices, by path, and their results.
use Rattle.std.specs.Prelude.{◌≡◌, ℕ, ◌*◌, Bool, false, ◌&&◌, List, ◌∷◌, Option, Some, None, ◌==◌}
use Rattle.file_disk.specs.declared.device_files.FileRequest.{FileRequest}
use Rattle.file_disk.specs.declared.device_files.FileRequest.TheVariants.{Identify}
use Rattle.file_disk.specs.declared.device_files.FileIdentity.{FileIdentity}
use Rattle.file_disk.specs.declared.file_calls.FileCalls as calls
use Rattle.file_disk.specs.declared.file_calls.HostFile.{HostFile}
use Rattle.file_disk.specs.declared.file_device.FileDevice.{FileDevice}
use Rattle.file_disk.specs.declared.file_device.OpenError.{OpenError}
use Rattle.file_disk.specs.declared.file_assumptions.FileAssumptions as starts
use Rattle.file_disk.specs.FileDevice.{IsUnused, calls_of_open_error, device_len, opening}
use Rattle.file_disk.specs.FileRecord.{Entry}
use Rattle.file_disk.specs.Opening.{IsCreated, IsNotCreated, IsNotOpenedReadOnly, IsNotOpenedExisting, IsOpenedReadOnly, IsOpenedExisting, failure_by}

-- A request with its path.
abbrev pub FileRequestEntry : Type 0
FileRequestEntry = FileRequest × List ℕ

-- ---- whether two paths lead to the same file

abbrev pub is_same : FileIdentity → FileIdentity → Bool
is_same one other = (one.device == other.device) && (one.number == other.number)

-- Both paths lead to a file, and the two files have the same identity.
abbrev pub is_same_file : Option FileIdentity → Option FileIdentity → Bool
is_same_file (Some one) (Some other) = is_same one other
is_same_file (Some one) None = false
is_same_file None other = false

-- The files at both paths were identified, and the answer says whether they are the same file. `was` is the
-- list of requests before, `now` the list after.
pub record AreCompared (one other : List ℕ) (is_one : Bool) (was now : List FileRequestEntry) : Type 0 where
  pub first : Option FileIdentity
  pub second : Option FileIdentity
  pub noted : now ≡ (Identify second, other) ∷ (Identify first, one) ∷ was
  pub reported : is_one ≡ is_same_file first second

-- ---- a device over the file at a path, or the reason why there is none

module _ {S : Type 0} {start : starts.Ghosts S} {g : calls.Ghosts HostFile} where
  -- An existing file, which was only opened, locked and measured.
  pub record IsOpenedExistingAt (entries : HostFile → List Entry) (path : List ℕ) (device : FileDevice S HostFile start g) : Type 0 where
    pub unused : IsUnused entries device
    pub taken : IsOpenedExisting path (opening device.file) (512 * device_len device)

  -- An existing file that was opened for reading only.
  pub record IsOpenedReadOnlyAt (entries : HostFile → List Entry) (path : List ℕ) (device : FileDevice S HostFile start g) : Type 0 where
    pub unused : IsUnused entries device
    pub shared : IsOpenedReadOnly path (opening device.file) (512 * device_len device)

  -- A file that was created if there was none.
  pub record IsCreatedAt (entries : HostFile → List Entry) (path : List ℕ) (device : FileDevice S HostFile start g) : Type 0 where
    pub unused : IsUnused entries device
    pub made : IsCreated path (opening device.file) (512 * device_len device)

abbrev pub IsNotOpenedExistingAt : List ℕ → OpenError → Type 0
IsNotOpenedExistingAt path refusal = IsNotOpenedExisting path (calls_of_open_error refusal) (failure_by refusal.fault refusal.cause)

abbrev pub IsNotOpenedReadOnlyAt : List ℕ → OpenError → Type 0
IsNotOpenedReadOnlyAt path refusal = IsNotOpenedReadOnly path (calls_of_open_error refusal) (failure_by refusal.fault refusal.cause)

-- A file that was not created with this many sectors.
abbrev pub IsNotCreatedAt : ℕ → List ℕ → OpenError → Type 0
IsNotCreatedAt sectors path refusal = IsNotCreated path (calls_of_open_error refusal) (512 * sectors) (failure_by refusal.fault refusal.cause)

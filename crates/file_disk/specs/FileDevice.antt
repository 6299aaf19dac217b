-- The value of a device over a file in contracts.
use Rattle.std.specs.Prelude.{◌≡◌, ℕ, ◌+◌, ◌-◌, ◌^◌, min, List, [], Option}
use Rattle.std.specs.declared.io.Error.{Error}
use Rattle.file_disk.specs.declared.file_device.FileDevice.{FileDevice}
use Rattle.file_disk.specs.declared.file_device.OpenError.{OpenError}
use Rattle.file_disk.specs.declared.file_calls.FileCalls as calls
use Rattle.file_disk.specs.declared.file_calls.HostFile.{HostFile}
use Rattle.system_calls.specs.SystemCalls.{RecordedCall}
use Rattle.file_disk.specs.declared.file_assumptions.FileAssumptions as starts
use Rattle.sector_disk.specs.Model.{Disk}
use Rattle.sector_disk.specs.History.{History}
use Rattle.file_disk.specs.FileRecord.{Entry, file_history}

-- The system calls by which the file was opened.
abbrev pub opening : HostFile → List RecordedCall
opening file = file.opening

-- The system calls of a failed opening.
abbrev pub calls_of_open_error : OpenError → List RecordedCall
calls_of_open_error refusal = refusal.noted

module _ {S F : Type 0} {start : starts.Ghosts S} {g : calls.Ghosts F} where
  abbrev pub device_len : FileDevice S F start g → ℕ
  device_len d = d.sectors

  abbrev pub device_calls : FileDevice S F start g → ℕ
  device_calls d = d.calls

  abbrev pub device_faults : FileDevice S F start g → ℕ
  device_faults d = d.faults

  -- The model's device after the calls in the file's record.
  abbrev pub history_of : Disk → (ℕ → List ℕ) → (F → List Entry) → FileDevice S F start g → History
  history_of disk shown entries d = file_history d.sectors disk shown (entries d.file) d.calls

  -- One more call has failed, and `cause` is the error of the system, if there is one.
  pub record HasFailed (cause : Option Error) (old new : FileDevice S F start g) : Type 0 where
    pub fault : new.faults ≡ min (old.faults + 1) (2 ^ 64 - 1)
    pub file : new.file ≡ old.file
    pub sectors : new.sectors ≡ old.sectors
    pub calls : new.calls ≡ old.calls
    pub reported : new.cause ≡ cause

  -- No call of the device was made yet.
  abbrev pub IsUnused : (F → List Entry) → FileDevice S F start g → Type 0
  IsUnused entries d = (device_calls d ≡ 0) × (device_faults d ≡ 0) × (entries d.file ≡ [])

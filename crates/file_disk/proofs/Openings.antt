-- No system call of an opening reports a bad length.
use Rattle.std.proofs.Common.{◌≡◌, Bool, true, false, List, [], ◌∷◌, Option, Some, None, refl, sym, ◌∙◌, ap}
use Rattle.std.specs.Option.{option_map, option_or}
use Rattle.std.proofs.lemmas.Bool.{cond_both, false≢true}
use Rattle.std.specs.declared.io.ErrorKind.{ErrorKind}
use Rattle.file_disk.specs.declared.file_device.FileFault.{FileFault}
use Rattle.file_disk.specs.declared.file_device.FileFault.TheVariants as faults
use Rattle.system_calls.specs.declared.system_call.SystemCall.{SystemCall}
use Rattle.system_calls.specs.declared.system_call.SystemCall.TheVariants.{
  Find,
  FindFailed,
  Open,
  Lock,
  Measure,
  MeasureFailed,
  SetLen,
  ReadAt,
  ReadAtFailed,
  WriteAt,
  WriteAtFailed,
  SyncData,
  SyncAll,
  OpenFolder,
  SyncFolder,
}
use Rattle.system_calls.specs.SystemCalls.{RecordedCall, is_memory}
use Rattle.system_calls.specs.FolderSync.{folder_error, is_not_offered}
use Rattle.file_disk.specs.Opening.{Failure, fault_of, failure_in, failure_of, first_failure, is_in_use, lock_failure, without_cause}

abbrev is_length_fault : FileFault → Bool
is_length_fault faults.NoFile = false
is_length_fault faults.BadLength = true
is_length_fault faults.OutOfMemory = false
is_length_fault faults.InUse = false

abbrev is_length : Option Failure → Bool
is_length None = false
is_length (Some failure) = is_length_fault failure.fault

of_kind : (kind : ErrorKind) → is_length_fault (fault_of kind) ≡ false
of_kind kind = cond_both (is_memory kind) faults.OutOfMemory faults.NoFile (λ fault. is_length_fault fault ≡ false) (λ _. refl) (λ _. refl)

of_lock : (kind : ErrorKind) → is_length (Some (lock_failure kind)) ≡ false
of_lock kind = cond_both (is_in_use kind) (without_cause faults.InUse) (failure_of kind) (λ failure. is_length (Some failure) ≡ false) (λ _. refl) (λ _. of_kind kind)

of_folder : (kind : ErrorKind) → is_length (option_map failure_of (folder_error (Some kind))) ≡ false
of_folder kind = cond_both (is_not_offered kind) None (Some kind) (λ error. is_length (option_map failure_of error) ≡ false) (λ _. refl) (λ _. of_kind kind)

of_call : (call : SystemCall) → is_length (failure_in call) ≡ false
of_call (Find true) = refl
of_call (Find false) = refl
of_call (FindFailed kind) = of_kind kind
of_call (Open access None) = refl
of_call (Open access (Some kind)) = of_kind kind
of_call (Lock is_shared None) = refl
of_call (Lock is_shared (Some kind)) = of_lock kind
of_call (Measure true len) = refl
of_call (Measure false len) = refl
of_call (MeasureFailed kind) = of_kind kind
of_call (SetLen len None) = refl
of_call (SetLen len (Some kind)) = of_kind kind
of_call (ReadAt offset moved) = refl
of_call (ReadAtFailed offset kind) = refl
of_call (WriteAt offset moved) = refl
of_call (WriteAtFailed offset kind) = of_kind kind
of_call (SyncData failed) = refl
of_call (SyncAll None) = refl
of_call (SyncAll (Some kind)) = of_kind kind
of_call (OpenFolder None) = refl
of_call (OpenFolder (Some kind)) = of_kind kind
of_call (SyncFolder None) = refl
of_call (SyncFolder (Some kind)) = of_folder kind

of_either : (a b : Option Failure) → is_length a ≡ false → is_length b ≡ false → is_length (option_or a b) ≡ false
of_either None b x y = y
of_either (Some failure) b x y = x

of_calls : (calls : List RecordedCall) → is_length (first_failure calls) ≡ false
of_calls [] = refl
of_calls (call ∷ earlier) = of_either (first_failure earlier) (failure_in call.0) (of_calls earlier) (of_call call.0)

pub no_length : (calls : List RecordedCall) (failure : Failure) → first_failure calls ≡ Some failure → failure.fault ≡ faults.BadLength → ⊥
no_length calls failure reported bad = false≢true (sym (of_calls calls) ∙ ap is_length reported ∙ ap is_length_fault bad)

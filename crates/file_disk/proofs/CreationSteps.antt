-- Calls that change no file leave its creation safe.
use Rattle.std.proofs.Common.{◌≡◌, ℕ, true, false, List, [], ◌∷◌, Some, None, refl, sym}
use Rattle.std.proofs.lemmas.Bool.{false≢true}
use Rattle.system_calls.specs.declared.system_call.SystemCall.{SystemCall}
use Rattle.system_calls.specs.declared.system_call.SystemCall.TheVariants.{
  Find,
  FindFailed,
  Open,
  Lock,
  Measure,
  MeasureFailed,
  SetLen,
  ReadAt,
  ReadAtFailed,
  WriteAt,
  WriteAtFailed,
  SyncData,
  SyncAll,
  OpenFolder,
  SyncFolder,
}
use Rattle.system_calls.specs.SystemCalls.{RecordedCall}
use Rattle.file_disk.specs.Creation.{CreationState, Unlocked, Locked, Measured, Unsafe, creation_state, is_unsafe, next_state}
use Rattle.file_disk.specs.Opening.{FileEffects, effects_in, effects_of}

module _ (len : ℕ) where
  abbrev StaysSafe : SystemCall → Type 0
  StaysSafe call = (state : CreationState) → is_unsafe state ≡ false → is_unsafe (next_state len state call) ≡ false

  in_each_state : (call : SystemCall) → is_unsafe (next_state len Unlocked call) ≡ false → is_unsafe (next_state len Locked call) ≡ false
      → ((old : ℕ) → is_unsafe (next_state len (Measured old) call) ≡ false) → StaysSafe call
  in_each_state call unlocked locked measured Unlocked safe = unlocked
  in_each_state call unlocked locked measured Locked safe = locked
  in_each_state call unlocked locked measured (Measured old) safe = measured old
  in_each_state call unlocked locked measured Unsafe safe = safe

  -- a call after which nothing has changed: nothing had before, and it keeps the creation safe
  of_call : (call : SystemCall) (bytes : List ℕ) (before : FileEffects) → (effects_of call bytes before).is_changed ≡ false → (before.is_changed ≡ false) × StaysSafe call
  of_call (Find is_file) bytes before same = (same, in_each_state (Find is_file) refl refl (λ old. refl))
  of_call (FindFailed kind) bytes before same = (same, in_each_state (FindFailed kind) refl refl (λ old. refl))
  of_call (Open access failed) bytes before same = (same, in_each_state (Open access failed) refl refl (λ old. refl))
  of_call (Lock true failed) bytes before same = (same, in_each_state (Lock true failed) refl refl (λ old. refl))
  of_call (Lock false None) bytes before same = (same, in_each_state (Lock false None) refl refl (λ old. refl))
  of_call (Lock false (Some kind)) bytes before same = (same, in_each_state (Lock false (Some kind)) refl refl (λ old. refl))
  of_call (Measure true n) bytes before same = (same, in_each_state (Measure true n) refl refl (λ old. refl))
  of_call (Measure false n) bytes before same = (same, in_each_state (Measure false n) refl refl (λ old. refl))
  of_call (MeasureFailed kind) bytes before same = (same, in_each_state (MeasureFailed kind) refl refl (λ old. refl))
  of_call (SetLen n failed) bytes before same = absurd (false≢true (sym same))
  of_call (ReadAt offset moved) bytes before same = (same, in_each_state (ReadAt offset moved) refl refl (λ old. refl))
  of_call (ReadAtFailed offset kind) bytes before same = (same, in_each_state (ReadAtFailed offset kind) refl refl (λ old. refl))
  of_call (WriteAt offset moved) bytes before same = absurd (false≢true (sym same))
  of_call (WriteAtFailed offset kind) bytes before same = absurd (false≢true (sym same))
  of_call (SyncData failed) bytes before same = absurd (false≢true (sym same))
  of_call (SyncAll failed) bytes before same = absurd (false≢true (sym same))
  of_call (OpenFolder failed) bytes before same = absurd (false≢true (sym same))
  of_call (SyncFolder failed) bytes before same = absurd (false≢true (sym same))

  pub safe_unchanged : (calls : List RecordedCall) → (effects_in calls).is_changed ≡ false → is_unsafe (creation_state len calls) ≡ false
  safe_unchanged [] same = refl
  safe_unchanged (call ∷ earlier) same =
      let step = of_call call.0 call.1 (effects_in earlier) same in step.1 (creation_state len earlier) (safe_unchanged earlier step.0)

-- A call that is repeated while a signal interrupts it.
use Rattle.std.specs.Prelude.{◌≡◌, ◌<◌, ◌-◌, ◌^◌, ℕ, Bool, true, false, List, length, Option, Some, None, Result, Ok, Err}
use Rattle.std.specs.List.{FoldsTo}
use Rattle.std.specs.IoError.{error_kind}
use Rattle.std.specs.declared.io.Error.{Error}
use Rattle.system_calls.specs.SystemCalls.{is_interruption}

-- A signal interrupted the call, so it moved no byte.
abbrev pub was_interrupted : Result ℕ Error → Bool
was_interrupted (Ok moved) = false
was_interrupted (Err error) = is_interruption (error_kind error)

-- `step` is one attempt, with its answer. It changes what the call captures.
module _ {F : Type 0} (step : F → Result ℕ Error → F → Type 0) where
  abbrev pub IsInterruptedAttempt : F → Result ℕ Error → F → Type 0
  IsInterruptedAttempt old answer new = step old answer new × (was_interrupted answer ≡ true)

  -- This many attempts were made one after another, and each was interrupted.
  pub record AreInterrupted (old : F) (attempts : ℕ) (new : F) : Type 0 where
    pub answers : List (Result ℕ Error)
    pub count : length answers ≡ attempts
    pub calls : FoldsTo IsInterruptedAttempt old answers new

  -- After these interrupted attempts, one more was made and not interrupted; its answer is the result. Without a
  -- result, the interrupted attempts are all that are made.
  abbrev pub IsLastAttempt : F → ℕ → Option (Result ℕ Error) → F → Type 0
  IsLastAttempt before attempts None new = (attempts ≡ 2 ^ 64 - 1) × (before ≡ new)
  IsLastAttempt before attempts (Some answer) new = (attempts < 2 ^ 64 - 1) × step before answer new × (was_interrupted answer ≡ false)

  -- The call was repeated while it was interrupted, at most 2^64-1 times in all.
  pub record IsRetried (old : F) (result : Option (Result ℕ Error)) (new : F) : Type 0 where
    pub attempts : ℕ
    pub before : F
    pub interrupted : AreInterrupted old attempts before
    pub last : IsLastAttempt before attempts result new

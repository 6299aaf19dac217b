-- The calls that create a file change it only under its lock, and keep its first bytes.
use Rattle.std.specs.Prelude.{ℕ, min, nat_le, Bool, true, false, List, [], ◌∷◌, None, if◌then◌else◌}
use Rattle.system_calls.specs.declared.system_call.SystemCall.{SystemCall}
use Rattle.system_calls.specs.declared.system_call.SystemCall.TheVariants.{Lock, Measure, SetLen, WriteAt, WriteAtFailed}
use Rattle.system_calls.specs.SystemCalls.{RecordedCall}

-- The call may change the file's bytes or its length, whether it fails or not.
abbrev pub changes_file : SystemCall → Bool
changes_file (SetLen len failed) = true
changes_file (WriteAt offset moved) = true
changes_file (WriteAtFailed offset kind) = true
changes_file _ = false

-- The call keeps this many bytes from the start of the file.
abbrev pub keeps_bytes : ℕ → SystemCall → Bool
keeps_bytes kept (SetLen len failed) = nat_le kept len
keeps_bytes kept (WriteAt offset moved) = nat_le kept offset
keeps_bytes kept (WriteAtFailed offset kind) = nat_le kept offset
keeps_bytes kept _ = true

-- The state of the creation of a file: its exclusive lock is not taken; it is; under the lock the file had this
-- length. `Unsafe`: the file was changed before that, or bytes were changed that are to be kept.
pub data CreationState : Type 0 where
  Unlocked : CreationState
  Locked : CreationState
  Measured : ℕ → CreationState
  Unsafe : CreationState

-- The state after one more call. The file gets the length `len`, and keeps its old bytes up to there.
abbrev pub next_state : ℕ → CreationState → SystemCall → CreationState
next_state len Unlocked (Lock false None) = Locked
next_state len Unlocked call = if changes_file call then Unsafe else Unlocked
next_state len Locked (Measure true old) = Measured old
next_state len Locked call = if changes_file call then Unsafe else Locked
next_state len (Measured old) call = if keeps_bytes (min old len) call then Measured old else Unsafe
next_state len Unsafe call = Unsafe

abbrev pub creation_state : ℕ → List RecordedCall → CreationState
creation_state len [] = Unlocked
creation_state len (call ∷ earlier) = next_state len (creation_state len earlier) call.0

abbrev pub is_unsafe : CreationState → Bool
is_unsafe Unsafe = true
is_unsafe _ = false

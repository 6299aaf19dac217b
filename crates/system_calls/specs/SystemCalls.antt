-- System calls, each recorded with its answer, the newest first.
use Rattle.std.specs.Prelude.{ℕ, ◌<◌, ◌≤◌, Bool, true, false, List, [], ◌∷◌, Option, Some, None, Result, Ok, Err, if◌then◌else◌}
use Rattle.std.specs.declared.io.ErrorKind.{ErrorKind}
use Rattle.std.specs.declared.io.ErrorKind.TheVariants as kind
use Rattle.std.specs.declared.io.Error.{Error}
use Rattle.std.specs.IoError.{error_kind}
use Rattle.system_calls.specs.declared.calls.FileMetadata.{FileMetadata}
use Rattle.system_calls.specs.declared.system_call.SystemCall.{SystemCall}
use Rattle.system_calls.specs.declared.system_call.SystemCall.TheVariants.{Find, FindFailed, Measure, MeasureFailed, ReadAt, ReadAtFailed, WriteAt, WriteAtFailed}

-- a call with the bytes that were read or written, or with the path that was opened
abbrev pub RecordedCall : Type 0
RecordedCall = SystemCall × List ℕ

abbrev pub kind_in : {T : Type 0} → Result T Error → Option ErrorKind
kind_in (Ok _) = None
kind_in (Err error) = Some (error_kind error)

abbrev pub found : Result Bool Error → SystemCall
found (Ok is_file) = Find is_file
found (Err error) = FindFailed (error_kind error)

abbrev pub measured : Result FileMetadata Error → SystemCall
measured (Ok extent) = Measure extent.is_file extent.len
measured (Err error) = MeasureFailed (error_kind error)

abbrev pub read_at_answer : ℕ → Result ℕ Error → SystemCall
read_at_answer offset (Ok moved) = ReadAt offset moved
read_at_answer offset (Err error) = ReadAtFailed offset (error_kind error)

abbrev pub write_at_answer : ℕ → Result ℕ Error → SystemCall
write_at_answer offset (Ok moved) = WriteAt offset moved
write_at_answer offset (Err error) = WriteAtFailed offset (error_kind error)

-- the number of bytes that a read or a write of `all` bytes moves: at least one, if there is any
pub record IsPart (all moved : ℕ) : Type 0 where
  pub some : 0 < all → 0 < moved
  pub inside : moved ≤ all

abbrev pub is_memory : ErrorKind → Bool
is_memory kind.OutOfMemory = true
is_memory _ = false

abbrev pub is_interruption : ErrorKind → Bool
is_interruption kind.Interrupted = true
is_interruption _ = false

-- a read or a write that a signal interrupted: it moved nothing, and is repeated
abbrev pub is_interrupted : SystemCall → Bool
is_interrupted (ReadAtFailed offset kind) = is_interruption kind
is_interrupted (WriteAtFailed offset kind) = is_interruption kind
is_interrupted _ = false

-- the calls without the interrupted ones
abbrev pub answered : List RecordedCall → List RecordedCall
answered [] = []
answered (call ∷ earlier) = if is_interrupted call.0 then answered earlier else call ∷ answered earlier

-- The error that is kept after a failed call of a reader or a writer.
use Rattle.std.specs.Prelude.{Option, Some, Result, Ok, Err, if◌then◌else◌}
use Rattle.std.specs.IoError.{error_kind}
use Rattle.std.specs.declared.io.Error.{Error}
use Rattle.system_calls.specs.SystemCalls.{is_interruption}

-- The error to keep after a call: that of this call if it failed, and otherwise the earlier one.
abbrev pub cause_after : {T : Type 0} → Option Error → Result T Error → Option Error
cause_after cause (Ok done) = cause
cause_after cause (Err error) = if is_interruption (error_kind error) then cause else Some error

-- No system call of an opening reports a bad length, so a length that a file can have is not refused.
use Rattle.std.proofs.Common.{sym, ◌∙◌}
use Rattle.system_calls.specs.SystemCalls.{answered}
use Rattle.file_disk.specs.Opening.{failure_by}
use Rattle.file_disk.proofs.Openings.{no_length}
use Rattle.file_disk.proofs.file_device.FileDevice+S.create_with_cause.Goals as goal

pub returns-clause-not_too_long : goal.returns-clause-not_too_long
returns-clause-not_too_long g c = λ short bad.
    no_length (answered c.create_file.new.noted) (failure_by c.in-Err.refusal.fault c.in-Err.refusal.cause) c.in-Err.ensures.refused.reported
    (sym c.new-in-Err.ensures.fault ∙ bad)

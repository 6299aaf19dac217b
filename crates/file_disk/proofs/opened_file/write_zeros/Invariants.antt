-- No call has failed so far, the file ends after the zeros written so far, and its old bytes are kept. Each
-- iteration leaves fewer to write.
use Rattle.std.proofs.Common.{◌≡◌, ◌≤◌, ◌-◌, Some, None}
use Rattle.system_calls.specs.SystemCalls.{answered}
use Rattle.file_disk.specs.Opening.{KeepsBytes, first_failure, len_after, opened_in}
use Rattle.file_disk.proofs.opened_file.write_zeros.Given as goal

abbrev pub decreases-loop-at : goal.decreases-loop-at
decreases-loop-at l = l.to - l.at

abbrev pub invariant-loop-at : goal.invariant-loop-at
invariant-loop-at l =
    (l.from ≤ l.at) × (l.at ≤ l.to) × (first_failure (answered l.noted) ≡ None) × (len_after (answered l.noted) ≡ Some l.at) × (opened_in l.noted ≡ opened_in l.initial.noted)
    × KeepsBytes l.from l.to l.noted

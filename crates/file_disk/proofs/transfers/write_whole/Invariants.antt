-- The parts so far are recorded as one unfinished write, and each iteration leaves less to write.
use Rattle.std.proofs.Common.{◌≡◌, ◌≤◌, ◌-◌, length}
use Rattle.file_disk.specs.Transfers.{Writes, transfers_by}
use Rattle.file_disk.proofs.TransferSteps.{so_far}
use Rattle.file_disk.proofs.transfers.write_whole.Given as goal

abbrev pub invariant-loop-at : goal.invariant-loop-at
invariant-loop-at l = (l.at ≤ length l.bytes) × (transfers_by l.noted ≡ so_far (transfers_by l.fn.noted).entries Writes l.start l.bytes l.at)

abbrev pub decreases-loop-at : goal.decreases-loop-at
decreases-loop-at l = length l.bytes - l.at

-- The parts so far are recorded as one unfinished read, and each iteration leaves less to read.
use Rattle.std.proofs.Common.{◌≡◌, ◌≤◌, ◌-◌, length}
use Rattle.file_disk.specs.Transfers.{Reads, transfers_by}
use Rattle.file_disk.proofs.TransferSteps.{so_far}
use Rattle.file_disk.proofs.transfers.read_whole.Given as goal

abbrev pub invariant-loop-at : goal.invariant-loop-at
invariant-loop-at l = (l.at ≤ length l.into) × (transfers_by l.noted ≡ so_far (transfers_by l.fn.noted).entries Reads l.start l.into l.at)

abbrev pub decreases-loop-at : goal.decreases-loop-at
decreases-loop-at l = length l.into - l.at

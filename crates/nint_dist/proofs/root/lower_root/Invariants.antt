-- The root so far is not below the nearest one, and each round lowers it, so the first root that can't be
-- lowered is the nearest.
use Rattle.std.proofs.Common.{◌≤◌, ◌+◌, ◌*◌, ◌^◌}
use Rattle.nint_dist.proofs.root.lower_root.Given as goal

abbrev pub invariant-loop-root : goal.invariant-loop-root
invariant-loop-root l = record { fits : l.root ≤ 2 ^ 32; reaches : l.s ≤ l.root * (l.root + 1) }

abbrev pub decreases-loop-root : goal.decreases-loop-root
decreases-loop-root l = l.root

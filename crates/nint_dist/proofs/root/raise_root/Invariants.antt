-- The root so far is at most 2^32, and each round brings it closer to 2^32, so the loop ends.
use Rattle.std.proofs.Common.{◌≤◌, ◌-◌, ◌^◌}
use Rattle.nint_dist.proofs.root.raise_root.Given as goal

abbrev pub invariant-loop-root : goal.invariant-loop-root
invariant-loop-root l = l.root ≤ 2 ^ 32

abbrev pub decreases-loop-root : goal.decreases-loop-root
decreases-loop-root l = 2 ^ 32 - l.root

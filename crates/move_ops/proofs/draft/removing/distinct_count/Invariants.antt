-- The count so far and the distinct names among the remaining ones make the distinct names of all, so at the end
-- the count is theirs.
use Rattle.std.proofs.Common.{◌≡◌, ◌+◌, ◌≤◌, length}
use Rattle.move_ops.specs.Changes.{distinct_count}
use Rattle.move_ops.proofs.draft.removing.distinct_count.Given as goal

abbrev pub invariant-loop-left : goal.invariant-loop-left
invariant-loop-left l = record {
  count : l.count + distinct_count l.left ≡ distinct_count l.names;
  few : l.count + length l.left ≤ length l.names;
}

abbrev pub decreases-loop-left : goal.decreases-loop-left
decreases-loop-left l = length l.left

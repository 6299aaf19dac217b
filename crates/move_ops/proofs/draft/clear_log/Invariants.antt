-- The log keeps its capacity while it gets shorter, so once it is empty it has as much as before.
use Rattle.std.proofs.Common.{◌≡◌, length, vec_capacity}
use Rattle.move_ops.proofs.draft.clear_log.Given as goal

abbrev pub invariant-loop-tour : goal.invariant-loop-tour
invariant-loop-tour l = record {
  room : vec_capacity l.log ≡ vec_capacity l.fn.log;
}

abbrev pub decreases-loop-tour : goal.decreases-loop-tour
decreases-loop-tour l = length l.log.items

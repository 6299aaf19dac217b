-- No vehicle after the used part so far has a stop, so wherever the loop ends it is a used part.
use Rattle.std.proofs.Common.{◌≤◌}
use Rattle.move_ops.specs.Drafts.{AreIdleAfter}
use Rattle.move_ops.specs.Tables.{plan_of}
use Rattle.move_ops.proofs.tours.used_len_of.Given as goal

abbrev pub invariant-loop-used_len : goal.invariant-loop-used_len
invariant-loop-used_len l = record {
  within : l.used_len ≤ l.end;
  idle : AreIdleAfter l.used_len (plan_of l.tours);
}

abbrev pub decreases-loop-used_len : goal.decreases-loop-used_len
decreases-loop-used_len l = l.used_len

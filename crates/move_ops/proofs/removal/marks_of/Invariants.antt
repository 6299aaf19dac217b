-- A number whose remainder has no mark is among the names exactly when it is among the remaining ones, so at the
-- end it is none of them.
use Rattle.std.proofs.Common.{◌≡◌, length}
use Rattle.move_ops.proofs.MarkLemmas.{AreMarked}
use Rattle.move_ops.proofs.removal.marks_of.Given as goal

abbrev pub invariant-loop-name : goal.invariant-loop-name
invariant-loop-name l = record {
  len : length l.marks ≡ 64;
  marked : AreMarked l.marks l.names l.name-index;
}

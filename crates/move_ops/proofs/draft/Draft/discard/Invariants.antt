-- The base is unchanged while the log gets shorter, so once it is empty the draft is the base.
use Rattle.std.proofs.Common.{◌≡◌, length}
use Rattle.move_ops.specs.Drafts.{undone}
use Rattle.move_ops.proofs.draft.Draft.discard.Given as goal

abbrev pub invariant-loop-self : goal.invariant-loop-self
invariant-loop-self l = record {
  base : undone l.self.tours l.self.log ≡ undone l.fn.self.tours l.fn.self.log;
  pinned : l.self.pinned ≡ l.fn.self.pinned;
  base_cost : l.self.base_cost ≡ l.fn.self.base_cost;
}

abbrev pub decreases-loop-self : goal.decreases-loop-self
decreases-loop-self l = length l.self.log

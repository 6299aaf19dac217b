-- The tours so far are those of the changes so far, and the draft is unchanged. So at the end each change has
-- its tour.
use Rattle.std.proofs.Common.{◌≡◌}
use Rattle.move_ops.proofs.TourLemmas.{AreToursTo}
use Rattle.move_ops.proofs.draft.Draft.new_tours.Given as goal

abbrev pub invariant-loop-change : goal.invariant-loop-change
invariant-loop-change l = record {
  tours : AreToursTo l.problem l.changes l.change-index l.tours.items;
  same : l.self ≡ l.fn.self;
}

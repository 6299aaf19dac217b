-- The best over the vehicles of `first` and the ones so far is known, and no later used vehicle needs a greater
-- bound. So at the end it is the best of all.
use Rattle.std.proofs.Common.{◌≡◌, ◌+◌, true}
use Rattle.move_ops.specs.InsertionSearch.{HasIdle, IsBestAmongThese, IsLooseBound, IsEntryOrUpTo, IsBelowMaximum}
use Rattle.move_ops.specs.Tables.{plan_of}
use Rattle.move_ops.proofs.tables.best_by_max_demands.Given as goal

abbrev pub invariant-loop-k : goal.invariant-loop-k
invariant-loop-k l = record {
  best : IsBestAmongThese l.terms.problem.now l.terms.pins.now (plan_of l.vehicles.tables.now) l.request l.terms.limit.now
      (IsEntryOrUpTo (plan_of l.vehicles.tables.now) l.vehicles.first.now l.k) l.best;
  below : IsLooseBound (l.k + 1) l.terms.limit.now l.best l.below;
  short : IsBelowMaximum l.best;
  idle : l.has_idle ≡ true → HasIdle (plan_of l.vehicles.tables.now) l.k;
}

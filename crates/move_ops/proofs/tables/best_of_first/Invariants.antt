-- The best over the vehicles of the entries so far is known, so at the end it is the best over those of all
-- entries.
use Rattle.move_ops.specs.InsertionSearch.{IsBestAmongThese, IsEntryWithStops, IsBelowMaximum}
use Rattle.move_ops.specs.Tables.{plan_of}
use Rattle.move_ops.proofs.tables.best_of_first.Given as goal

abbrev pub invariant-loop-j : goal.invariant-loop-j
invariant-loop-j l = record {
  best : IsBestAmongThese l.terms.problem.now l.terms.pins.now (plan_of l.vehicles.tables.now) l.request l.terms.limit.now
      (IsEntryWithStops (plan_of l.vehicles.tables.now) l.vehicles.first.now l.j) l.best;
  short : IsBelowMaximum l.best;
}

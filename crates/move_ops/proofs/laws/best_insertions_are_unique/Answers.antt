-- Costs are totally ordered. If two insertions are no worse than any, each is no worse than the other, so they
-- are equal.
use Rattle.move_ops.proofs.BestLemmas.{best_is_unique}
use Rattle.move_ops.proofs.laws.best_insertions_are_unique.Goals as goal

pub returns : goal.returns
returns c =
    best_is_unique c.costs_are_totally_ordered.ensures.total c.costs_are_totally_ordered.ensures.transitive
    c.costs_are_totally_ordered.ensures.below_then_at_most c.costs_are_totally_ordered.ensures.at_most_then_below
    c.costs_are_totally_ordered.ensures.below_is_at_most

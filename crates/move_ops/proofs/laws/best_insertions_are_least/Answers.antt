-- Costs are totally ordered, so the best insertion is no worse than any, and there is none exactly when the
-- request has no insertion.
use Rattle.move_ops.proofs.BestLemmas.{best_is_least}
use Rattle.move_ops.proofs.laws.best_insertions_are_least.Goals as goal

pub returns : goal.returns
returns c =
    best_is_least c.costs_are_totally_ordered.ensures.total c.costs_are_totally_ordered.ensures.transitive
    c.costs_are_totally_ordered.ensures.below_then_at_most c.costs_are_totally_ordered.ensures.at_most_then_below
    c.costs_are_totally_ordered.ensures.below_is_at_most

-- Costs are totally ordered, so no number of steps makes the incumbent cost more.
use Rattle.seeded_search.proofs.SearchLemmas.{incumbents_never_cost_more}
use Rattle.seeded_search.proofs.laws.incumbents_never_cost_more.Goals as goal

pub returns : goal.returns
returns c = incumbents_never_cost_more c.costs_are_totally_ordered.ensures.total c.costs_are_totally_ordered.ensures.transitive

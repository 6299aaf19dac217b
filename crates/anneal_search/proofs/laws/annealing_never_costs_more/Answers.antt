-- Costs are totally ordered, so no number of annealing steps makes the incumbent more expensive
use Rattle.seeded_search.proofs.SearchLemmas.{many_cost}
use Rattle.anneal_search.specs.Annealing.{anneal_step, anneal_steps}
use Rattle.anneal_search.proofs.AnnealLemmas.{step_cost}
use Rattle.anneal_search.proofs.laws.annealing_never_costs_more.Goals as goal

pub returns : goal.returns
unfolding anneal_steps
returns c p pins deviation seed n count s =
    let total = c.costs_are_totally_ordered.ensures.total in
    many_cost (anneal_step p pins deviation seed) p total c.costs_are_totally_ordered.ensures.transitive (step_cost p pins deviation seed total) count n s

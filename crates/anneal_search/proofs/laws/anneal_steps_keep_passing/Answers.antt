-- Each annealing step leads from plans that pass to plans that pass, so any number of them does
use Rattle.seeded_search.specs.StepLaws.{BothPass}
use Rattle.seeded_search.proofs.SearchLemmas.{many_keep}
use Rattle.anneal_search.specs.Annealing.{anneal_step, anneal_steps}
use Rattle.anneal_search.proofs.AnnealLemmas.{step_passes}
use Rattle.anneal_search.proofs.laws.anneal_steps_keep_passing.Goals as goal

pub returns : goal.returns
unfolding anneal_steps
returns c p pins deviation seed n count s both = many_keep (anneal_step p pins deviation seed) (BothPass p pins) (step_passes p pins deviation seed) count n s both

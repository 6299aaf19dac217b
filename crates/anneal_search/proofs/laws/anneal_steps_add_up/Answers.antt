-- Some annealing steps followed by more steps equal all of them in one run
use Rattle.seeded_search.proofs.SearchLemmas.{many_add_up}
use Rattle.anneal_search.specs.Annealing.{anneal_step, anneal_steps}
use Rattle.anneal_search.proofs.laws.anneal_steps_add_up.Goals as goal

pub returns : goal.returns
unfolding anneal_steps
returns c p pins deviation seed n a b s = many_add_up (anneal_step p pins deviation seed) b a n s

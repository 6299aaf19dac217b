-- One annealing step is the result of `anneal_steps` for one step.
use Rattle.anneal_search.specs.Annealing.{anneal_steps}
use Rattle.anneal_search.proofs.search.anneal_step.Goals as goal

pub returns-clause-found : goal.returns-clause-found
unfolding anneal_steps
returns-clause-found c = c.anneal_steps.ensures.found

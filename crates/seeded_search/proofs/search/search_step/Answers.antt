-- One step is the result of `steps` for one step.
use Rattle.seeded_search.specs.Steps.{steps}
use Rattle.seeded_search.proofs.search.search_step.Goals as goal

pub returns-clause-found : goal.returns-clause-found
unfolding steps
returns-clause-found c = c.search_steps.ensures.found

-- Each step leads from plans that pass to plans that pass, so any number of steps does.
use Rattle.seeded_search.proofs.SearchLemmas.{steps_keep_passing}
use Rattle.seeded_search.proofs.laws.steps_keep_passing.Goals as goal

pub returns : goal.returns
returns c = steps_keep_passing

-- Some steps followed by more steps equal all of them in one run.
use Rattle.seeded_search.proofs.SearchLemmas.{steps_add_up}
use Rattle.seeded_search.proofs.laws.steps_add_up.Goals as goal

pub returns : goal.returns
returns c = steps_add_up

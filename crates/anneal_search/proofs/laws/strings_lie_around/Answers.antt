-- A string contains the nearest stop of its route, lies in the route, and removes no more stops than it may
use Rattle.anneal_search.proofs.CutLemmas.{strings_lie_around}
use Rattle.anneal_search.proofs.laws.strings_lie_around.Goals as goal

pub returns : goal.returns
returns c = strings_lie_around

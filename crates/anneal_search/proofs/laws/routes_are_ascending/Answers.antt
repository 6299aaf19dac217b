-- The nearest routes ascend by their nearest stops
use Rattle.anneal_search.proofs.NearestLemmas.{routes_are_ascending}
use Rattle.anneal_search.proofs.laws.routes_are_ascending.Goals as goal

pub returns : goal.returns
returns c = routes_are_ascending

-- No stop of a route is nearer than its nearest one
use Rattle.anneal_search.proofs.NearestLemmas.{nearest_stop_is_closest}
use Rattle.anneal_search.proofs.laws.nearest_stop_is_closest.Goals as goal

pub returns : goal.returns
returns c = nearest_stop_is_closest

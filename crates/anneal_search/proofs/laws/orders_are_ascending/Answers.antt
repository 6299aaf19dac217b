-- An order has exactly the given names, ascending by key, then by salt, then by name
use Rattle.anneal_search.proofs.OrderLemmas.{orders_are_ascending}
use Rattle.anneal_search.proofs.laws.orders_are_ascending.Goals as goal

pub returns : goal.returns
returns c = orders_are_ascending

-- The best of some trials is no worse than each of them. So if it is overloaded, all are, by no less.
use Rattle.request_explanation.proofs.BestLemmas.{overload_is_last}
use Rattle.request_explanation.proofs.laws.overloads_are_a_last_resort.Goals as goal

pub returns : goal.returns
returns c = overload_is_last

-- Each of m things is picked by 2^32 / m words, rounded down, or by one more.
use Rattle.seeded_search.proofs.PickLemmas.{picks}
use Rattle.seeded_search.proofs.laws.picks_are_even.Goals as goal

pub returns : goal.returns
returns c = picks

-- A request can go back to its old place, so a relocated plan costs no more than the plan from which it was
-- made.
use Rattle.seeded_search.proofs.SearchLemmas.{relocated_never_cost_more}
use Rattle.seeded_search.proofs.laws.relocated_never_cost_more.Goals as goal

pub returns : goal.returns
returns c = relocated_never_cost_more c.relocations_never_cost_more.ensures

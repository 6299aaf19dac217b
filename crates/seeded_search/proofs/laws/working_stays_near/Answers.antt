-- The new working plan is within the deviation of the incumbent, or is itself the new incumbent. So it stays near
-- the incumbent.
use Rattle.seeded_search.proofs.SearchLemmas.{working_stays_near}
use Rattle.seeded_search.proofs.laws.working_stays_near.Goals as goal

pub returns : goal.returns
returns c = working_stays_near c.costs_are_totally_ordered.ensures.below_is_at_most

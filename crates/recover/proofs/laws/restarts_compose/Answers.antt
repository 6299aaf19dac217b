-- Restarts, each from the state that the previous one returned, compose to a path from the first state to the
-- last.
use Rattle.recover.proofs.LinkLemmas.{links_lead_on}
use Rattle.recover.proofs.laws.restarts_compose.Goals as goal

pub returns : goal.returns
returns c = links_lead_on c.commands_keep_invariants.ensures.many c.plans_never_cost_more.ensures c.searches_add_up.ensures.many c.annealings_add_up.ensures.many c.passes_decides_the_verdict.ensures

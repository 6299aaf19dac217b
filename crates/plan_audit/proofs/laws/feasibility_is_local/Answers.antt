-- Feasibility of a route alone depends only on the route's own requests.
use Rattle.plan_audit.proofs.AgreeLemmas.{feasibility_is_local}
use Rattle.plan_audit.proofs.laws.feasibility_is_local.Goals as goal

pub returns : goal.returns
returns c = feasibility_is_local c.schedules_agree.ensures

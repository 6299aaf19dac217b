-- Routes are a plan exactly if each has distinct current stops and no two share a stop.
use Rattle.plan_audit.proofs.LocalLemmas.{plans_are_disjoint_routes}
use Rattle.plan_audit.proofs.laws.plans_are_disjoint_routes.Goals as goal

pub returns : goal.returns
returns c = plans_are_disjoint_routes

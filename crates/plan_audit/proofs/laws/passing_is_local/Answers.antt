-- A plan passes exactly if its stops are distinct and current, each vehicle has a route, and each route is
-- feasible alone and begins with its pin.
use Rattle.plan_audit.proofs.LocalLemmas.{passing_is_local}
use Rattle.plan_audit.proofs.laws.passing_is_local.Goals as goal

pub returns : goal.returns
returns c = passing_is_local

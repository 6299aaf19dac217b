-- Routes of a passing plan may be replaced by feasible routes that begin with the same pins, if no stop is in
-- two routes afterwards.
use Rattle.plan_audit.proofs.LocalLemmas.{routes_may_be_replaced}
use Rattle.plan_audit.proofs.laws.routes_may_be_replaced.Goals as goal

pub returns : goal.returns
returns c = routes_may_be_replaced

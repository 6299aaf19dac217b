-- A plan is judged route by route, and no route has to meet more without pins than with them. So the plan passes
-- without them.
use Rattle.move_ops.proofs.QueryLemmas.{without_pins}
use Rattle.move_ops.proofs.laws.plans_pass_without_pins.Goals as goal

pub returns : goal.returns
returns c = without_pins c.passing_is_local.ensures

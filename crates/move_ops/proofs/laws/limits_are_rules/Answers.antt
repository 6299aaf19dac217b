-- A route keeps the limits of its table exactly when, as the only route, it breaks none of the auditor's rules
-- on load and time.
use Rattle.move_ops.proofs.LimitRules.{limits_are_rules}
use Rattle.move_ops.proofs.laws.limits_are_rules.Goals as goal

pub returns : goal.returns
returns c = limits_are_rules

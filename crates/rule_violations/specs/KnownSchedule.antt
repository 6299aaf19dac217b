-- The rules under which the schedule is known.
use Rattle.std.specs.Prelude.{Bool, true, false}
use Rattle.plan_audit.specs.declared.rules.Rule.{Rule}
use Rattle.plan_audit.specs.declared.rules.Rule.TheVariants.{UnknownStop, VisitedTwice}

-- whether no stop is unknown or repeated when this rule is the first broken one
abbrev pub schedule_is_known : Rule → Bool
schedule_is_known UnknownStop = false
schedule_is_known VisitedTwice = false
schedule_is_known rule = true

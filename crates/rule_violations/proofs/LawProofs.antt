-- Proofs of the laws on the lists of violations.
use Rattle.std.proofs.Common.{arith}
use Rattle.plan_audit.specs.declared.rules.Rule.TheVariants.{UnknownStop, VisitedTwice, MissingStop, SplitPair, EarlyDelivery, Load, Late, LateReturn, Fleet, Pin, PrintedCost}
use Rattle.rule_violations.specs.Laws.{ListsHoldAllViolations}
use Rattle.rule_violations.proofs.MissingLemmas.{missing_all}
use Rattle.rule_violations.proofs.ReturnLemmas.{return_all}
use Rattle.rule_violations.proofs.RuleLemmas.{early_all, late_all, load_all, split_all, twice_all, unknown_all}

pub lists_hold : ListsHoldAllViolations
lists_hold p routes UnknownStop valid le once = unknown_all p routes
lists_hold p routes VisitedTwice valid le once = twice_all p routes
lists_hold p routes MissingStop valid le once = missing_all p routes valid
lists_hold p routes SplitPair valid le once = split_all p routes (once (omega arith) (omega arith))
lists_hold p routes EarlyDelivery valid le once = early_all p routes (once (omega arith) (omega arith))
lists_hold p routes Load valid le once = load_all p routes
lists_hold p routes Late valid le once = late_all p routes
lists_hold p routes LateReturn valid le once = return_all p routes
lists_hold p routes Fleet valid le once = absurd (omega arith)
lists_hold p routes Pin valid le once = absurd (omega arith)
lists_hold p routes PrintedCost valid le once = absurd (omega arith)

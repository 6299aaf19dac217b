-- If the schedule is known, the stops are distinct stops of current requests.
use Rattle.std.proofs.Common.{◌≡◌, ℕ, ◌<◌, true, arith, All}
use Rattle.plan_types.specs.Instance.{Instance}
use Rattle.route_sched.specs.Route.{AreDistinctStops}
use Rattle.plan_audit.specs.Verdict.{IsVerdict, Subject, routes_of, rule_number}
use Rattle.plan_audit.specs.declared.rules.Rule.{Rule}
use Rattle.plan_audit.specs.declared.rules.Rule.TheVariants.{UnknownStop, VisitedTwice, MissingStop, SplitPair, EarlyDelivery, Load, Late, LateReturn, Fleet, Pin, PrintedCost}
use Rattle.plan_audit.specs.declared.rules.Verdict.TheVariants.{Broken}
use Rattle.plan_audit.proofs.StepLemmas.{live_above}
use Rattle.rule_violations.specs.KnownSchedule.{schedule_is_known}
use Rattle.rule_violations.proofs.RuleLemmas.{not_so}

pub above_two : (k : Rule) → schedule_is_known k ≡ true → 2 < rule_number k
above_two UnknownStop h = not_so h
above_two VisitedTwice h = not_so h
above_two MissingStop h = omega arith
above_two SplitPair h = omega arith
above_two EarlyDelivery h = omega arith
above_two Load h = omega arith
above_two Late h = omega arith
above_two LateReturn h = omega arith
above_two Fleet h = omega arith
above_two Pin h = omega arith
above_two PrintedCost h = omega arith

pub distinct_if_known : (p : Instance) (s : Subject) (k : Rule) (r i n : ℕ) → IsVerdict p s (Broken (rule_number k) r i n) → schedule_is_known k ≡ true
    → All (AreDistinctStops p) (routes_of s)
distinct_if_known p s k r i n is h = live_above p s (rule_number k) r i n is (above_two k h)

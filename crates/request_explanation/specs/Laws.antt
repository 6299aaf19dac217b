-- The meaning of the best trial, and of the answer for a request alone.
use Rattle.std.specs.Prelude.{◌≡◌, ◌↔◌, ◌≤◌, ℕ, false, true, List, Option, None, Some}
use Rattle.std.specs.List.{AllByRecursion}
use Rattle.plan_types.specs.Instance.{Instance, IsInstance}
use Rattle.plan_types.specs.declared.requests.Request.{Request}
use Rattle.plan_audit.specs.Alone.{IsFeasibleAlone, alone}
use Rattle.plan_audit.specs.Verdict.{IsVerdictWithin, rule_number}
use Rattle.plan_audit.specs.declared.rules.Rule.{Rule}
use Rattle.plan_audit.specs.declared.rules.Rule.TheVariants.{Late, LateReturn, Load}
use Rattle.plan_audit.specs.declared.rules.Verdict.TheVariants.{Broken}
use Rattle.move_ops.specs.Insertion.{request_named}
use Rattle.request_explanation.specs.LimitViolations.{excess_of, is_overload, violation_of}
use Rattle.request_explanation.specs.Trials.{best_trial, is_better, trials}
use Rattle.request_explanation.specs.Why.{alone_route}
use Rattle.request_explanation.specs.declared.limit_violations.Limit.{Limit}
use Rattle.request_explanation.specs.declared.limit_violations.Limit.TheVariants.{Capacity, Start, Return}
use Rattle.request_explanation.specs.declared.limit_violations.LimitViolation.{LimitViolation}
use Rattle.request_explanation.specs.declared.trials.Trial.{Trial}

-- law: no trial violates less than the best one, or as much with a shorter distance
abbrev pub NoneIsBetter : Type 0
NoneIsBetter = (p : Instance) (route : List ℕ) (r : Request) (kept : ℕ) (best : Trial) → best_trial p route r kept ≡ Some best → AllByRecursion (λ t. is_better t best ≡ false) (trials p route r kept)

-- law: if the best trial is overloaded, every trial is overloaded by at least as much
abbrev pub OverloadIsLastResort : Type 0
OverloadIsLastResort = (p : Instance) (route : List ℕ) (r : Request) (kept : ℕ) (best : Trial) →
    best_trial p route r kept ≡ Some best → is_overload best.violation ≡ true →
    AllByRecursion (λ t. (is_overload t.violation ≡ true) × (excess_of best.violation ≤ excess_of t.violation)) (trials p route r kept)

-- law: a vehicle that serves a current request and nothing else exceeds no limit exactly if the auditor finds
-- its route feasible alone
abbrev pub AloneIsJudgedByRules : Type 0
AloneIsJudgedByRules = (p : Instance) (name : ℕ) (r : Request) → IsInstance p → request_named p name ≡ Some r → (violation_of p (alone_route r) ≡ None) ↔ IsFeasibleAlone p (alone_route r)

-- the auditor's rule on a limit
abbrev pub limit_rule : Limit → Rule
limit_rule Capacity = Load
limit_rule Start = Late
limit_rule Return = LateReturn

-- the violation matches the auditor's verdict on this route alone. If there is no violation, the route is
-- feasible alone; otherwise the verdict names the rule of the limit and this stop, at some place of route 1.
abbrev pub MatchesFault : Instance → List ℕ → Option LimitViolation → Type 0
MatchesFault p route None = IsFeasibleAlone p route
MatchesFault p route (Some m) = (i : ℕ) × IsVerdictWithin 3 8 p (alone route) (Broken (rule_number (limit_rule m.limit)) 1 i m.stop)

-- law: `MatchesFault` holds for a vehicle that serves a current request and nothing else
abbrev pub AloneMatchesFault : Type 0
AloneMatchesFault = (p : Instance) (name : ℕ) (r : Request) → IsInstance p → request_named p name ≡ Some r → MatchesFault p (alone_route r) (violation_of p (alone_route r))

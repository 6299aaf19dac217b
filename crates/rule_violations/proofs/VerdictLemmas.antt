-- A verdict `Broken` reports the first violation of its rule.
use Rattle.std.proofs.Common.{◌≡◌, ℕ, ◌<◌, ◌≤◌, List, [], ◌∷◌, Some, refl, sym, ap, subst, inl, inr, arith}
use Rattle.std.proofs.lemmas.Bool.{cases_lt}
use Rattle.plan_types.specs.Instance.{Instance, IsInstance}
use Rattle.plan_audit.specs.Rules.{IsNotAfter}
use Rattle.plan_audit.specs.Verdict.{printed, Breaks, IsFirstBroken, KeepsRules, rule_number, rule_of}
use Rattle.plan_audit.specs.declared.rules.Rule.{Rule}
use Rattle.plan_audit.specs.declared.rules.Rule.TheVariants.{UnknownStop, VisitedTwice, MissingStop, SplitPair, EarlyDelivery, Load, Late, LateReturn, Fleet, Pin, PrintedCost}
use Rattle.plan_audit.proofs.VerdictLemmas.{same_rule}
use Rattle.rule_violations.specs.Violations.{violations_of}
use Rattle.rule_violations.specs.Laws.{AreAll, BeginsWith, IsBefore, IsViolation, ListsHoldAllViolations, HasNoRepeatedStop, VerdictsReportFirstViolations, PassingRoutesHaveNoViolations, excess}
use Rattle.rule_violations.specs.declared.violations.Violation.{Violation}
use Rattle.rule_violations.proofs.ListLemmas.{all_at, in_cases, in_head}

-- a rule's number determines the rule
pub number_reported : (k : Rule) → rule_of (rule_number k) ≡ Some k
number_reported UnknownStop = refl
number_reported VisitedTwice = refl
number_reported MissingStop = refl
number_reported SplitPair = refl
number_reported EarlyDelivery = refl
number_reported Load = refl
number_reported Late = refl
number_reported LateReturn = refl
number_reported Fleet = refl
number_reported Pin = refl
number_reported PrintedCost = refl

from_one : (k : Rule) → 1 ≤ rule_number k
from_one UnknownStop = omega arith
from_one VisitedTwice = omega arith
from_one MissingStop = omega arith
from_one SplitPair = omega arith
from_one EarlyDelivery = omega arith
from_one Load = omega arith
from_one Late = omega arith
from_one LateReturn = omega arith
from_one Fleet = omega arith
from_one Pin = omega arith
from_one PrintedCost = omega arith

to_last : (k : Rule) → rule_number k ≤ 11
to_last UnknownStop = omega arith
to_last VisitedTwice = omega arith
to_last MissingStop = omega arith
to_last SplitPair = omega arith
to_last EarlyDelivery = omega arith
to_last Load = omega arith
to_last Late = omega arith
to_last LateReturn = omega arith
to_last Fleet = omega arith
to_last Pin = omega arith
to_last PrintedCost = omega arith

-- a rule on places does not depend on the printed cost
any_cost : (p : Instance) (routes : List (List ℕ)) (k : Rule) (cost other r i n : ℕ) → rule_number k ≤ 8 → Breaks p (printed routes cost) k r i n
    → Breaks p (printed routes other) k r i n
any_cost p routes UnknownStop cost other r i n le b = b
any_cost p routes VisitedTwice cost other r i n le b = b
any_cost p routes MissingStop cost other r i n le b = b
any_cost p routes SplitPair cost other r i n le b = b
any_cost p routes EarlyDelivery cost other r i n le b = b
any_cost p routes Load cost other r i n le b = b
any_cost p routes Late cost other r i n le b = b
any_cost p routes LateReturn cost other r i n le b = b
any_cost p routes Fleet cost other r i n le b = absurd (omega arith)
any_cost p routes Pin cost other r i n le b = absurd (omega arith)
any_cost p routes PrintedCost cost other r i n le b = absurd (omega arith)

-- the rules on the whole plan have empty lists
none_on_whole : (p : Instance) (routes : List (List ℕ)) (k : Rule) → 8 < rule_number k → violations_of p routes k ≡ []
none_on_whole p routes UnknownStop lt = absurd (omega arith)
none_on_whole p routes VisitedTwice lt = absurd (omega arith)
none_on_whole p routes MissingStop lt = absurd (omega arith)
none_on_whole p routes SplitPair lt = absurd (omega arith)
none_on_whole p routes EarlyDelivery lt = absurd (omega arith)
none_on_whole p routes Load lt = absurd (omega arith)
none_on_whole p routes Late lt = absurd (omega arith)
none_on_whole p routes LateReturn lt = absurd (omega arith)
none_on_whole p routes Fleet lt = refl
none_on_whole p routes Pin lt = refl
none_on_whole p routes PrintedCost lt = refl

none_in : (B : Violation → Type 0) (found : List Violation) → AreAll B found → ((b : Violation) → B b → ⊥) → found ≡ []
none_in B [] all none = refl
none_in B (b ∷ more) all none = absurd (none b (((all.each) b).0 (in_head b more)))

-- the first item of the list is the first violation
first_is : (B : Violation → Type 0) (found : List Violation) (a : Violation) → AreAll B found → B a
    → ((b : Violation) → B b → IsNotAfter a.route a.place a.stop b.route b.place b.stop) → BeginsWith found a.route a.place a.stop
first_is B [] a all is least = absurd (let c = ((all.each) a).1 is in let lt = c.1 in omega arith)
first_is B (b ∷ more) a all is least = elim (in_cases b more a (((all.each) a).1 is)) [
  | inl same ↦ (b, more, refl, ap (λ (b : Violation). b.route) same, ap (λ (b : Violation). b.place) same, ap (λ (b : Violation). b.stop) same)
  | inr following ↦ absurd (never (all_at (IsBefore b) more a (all.ascending).0 following) (least b (((all.each) b).0 (in_head b more))))
]
  where
    never : IsBefore b a → IsNotAfter a.route a.place a.stop b.route b.place b.stop → ⊥
    never (inl lt) (inl gt) = omega arith
    never (inl lt) (inr ge) = let same = ge.0 in omega arith
    never (inr le) (inl gt) = let same = le.0 in omega arith
    never (inr le) (inr ge) = elim le.1 as (λ _. ⊥) [
      | inl lt ↦ elim ge.1 as (λ _. ⊥) [
        | inl gt ↦ omega arith
        | inr same ↦ (let e = same.0 in omega arith)
      ]
      | inr lt ↦ elim ge.1 as (λ _. ⊥) [
        | inl gt ↦ (let e = lt.0 in omega arith)
        | inr same ↦ (let e = lt.1 in let f = same.1 in omega arith)
      ]
    ]

module _ (lists : ListsHoldAllViolations) (p : Instance) (routes : List (List ℕ)) (cost : ℕ) (valid : IsInstance p) where
  -- if no rule before rule k is broken, and k is after rule 3, no stop is repeated
  once_from : (k : Rule) → 3 < rule_number k → ((m : Rule) (r i n : ℕ) → rule_number m < rule_number k → Breaks p (printed routes cost) m r i n → ⊥)
      → HasNoRepeatedStop p routes
  once_from k lt kept r i n b = kept VisitedTwice r i n (omega arith) b

  kept_list : (m : Rule) → ((k : Rule) (r i n : ℕ) → rule_number k ≤ rule_number m → Breaks p (printed routes cost) k r i n → ⊥) → violations_of p routes m ≡ []
  kept_list m kept = elim (cases_lt 8 (rule_number m)) [
    | inl lt ↦ none_on_whole p routes m lt
    | inr le ↦ none_in (IsViolation p routes m) (violations_of p routes m)
        (lists p routes m valid le (λ above _. once_from m above (λ k r i n below b. kept k r i n (omega arith) b)))
        (λ b is. kept m b.route b.place b.stop (omega arith) (is.0 cost))
  ]

  pub passing_list : KeepsRules 1 11 p (printed routes cost) → (m : Rule) → violations_of p routes m ≡ []
  passing_list kept m = kept_list m (λ k r i n le b. kept k r i n (from_one k) (to_last k) b)

  -- no rule before the first broken one is broken
  none_before : (k : Rule) (r i n : ℕ) → IsFirstBroken 1 11 p (printed routes cost) k r i n → (m : Rule) (q j t : ℕ) → rule_number m < rule_number k
      → Breaks p (printed routes cost) m q j t → ⊥
  none_before k r i n least m q j t lt b = elim (least.least m q j t (from_one m) (to_last m) b) as (λ _. ⊥) [
    | inl above ↦ omega arith
    | inr same ↦ (let e = same.0 in omega arith)
  ]

  not_after : (k : Rule) (r i n : ℕ) → IsFirstBroken 1 11 p (printed routes cost) k r i n → (q j t : ℕ) → Breaks p (printed routes cost) k q j t
      → IsNotAfter r i n q j t
  not_after k r i n least q j t b = elim (least.least k q j t (from_one k) (to_last k) b) [
    | inl above ↦ absurd (let e = above in omega arith)
    | inr same ↦ same.1
  ]

  pub least_reported : (k : Rule) (r i n : ℕ) → rule_number k ≤ 8 → IsFirstBroken 1 11 p (printed routes cost) k r i n
      → BeginsWith (violations_of p routes k) r i n × ((m : Rule) → rule_number m < rule_number k → violations_of p routes m ≡ [])
  least_reported k r i n le least = (
    first_is (IsViolation p routes k) (violations_of p routes k) (record { route = r; place = i; stop = n; by = excess p routes k r i })
        (lists p routes k valid le (λ above _. once_from k above (λ m q j t lt b. none_before k r i n least m q j t lt b)))
        ((λ other. any_cost p routes k cost other r i n le (least.broken)), refl)
        (λ b is. not_after k r i n least b.route b.place b.stop (is.0 cost)),
    λ m lt. kept_list m (λ l q j t below b. none_before k r i n least l q j t (omega arith) b),
  )

pub verdicts_report_first : ListsHoldAllViolations → VerdictsReportFirstViolations
verdicts_report_first lists p routes cost k r i n valid le is =
    let same : is.0 ≡ k = same_rule is.0 k (sym is.1) in
    least_reported lists p routes cost valid k r i n le (subst (λ m. IsFirstBroken 1 11 p (printed routes cost) m r i n) same is.2)

pub passing_has_none : ListsHoldAllViolations → PassingRoutesHaveNoViolations
passing_has_none lists p routes cost passed m valid is = passing_list lists p routes cost valid is.0 m

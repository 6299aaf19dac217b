-- The lists hold the violations of the auditor's rules, and its verdict is the first of them.
use Rattle.std.specs.Prelude.{◌≡◌, ◌↔◌, ◌⊎◌, ℕ, ◌-◌, ◌-ℤ◌, ◌<◌, ◌≤◌, List, [], ◌∷◌, Some, IsSome, unwrap_or, nat_eq, pos, unsigned_abs}
use Rattle.std.specs.Bool.{⊤}
use Rattle.std.specs.List.{AllByRecursion, Contains}
use Rattle.std.specs.Map.{lookup}
use Rattle.plan_types.specs.Instance.{Instance, IsInstance}
use Rattle.plan_types.specs.Request.{stop_in}
use Rattle.plan_types.specs.declared.requests.Request.{Request}
use Rattle.route_sched.specs.Route.{place}
use Rattle.route_sched.specs.Schedule.{load, start}
use Rattle.plan_audit.specs.Rules.{item_at, IsMissing, IsRepeated}
use Rattle.plan_audit.specs.Verdict.{printed, Breaks, IsUnserved, IsVerdict, rule_number}
use Rattle.plan_audit.specs.declared.rules.Rule.{Rule}
use Rattle.plan_audit.specs.declared.rules.Rule.TheVariants.{Load, Late, LateReturn}
use Rattle.plan_audit.specs.declared.rules.Verdict.TheVariants.{Broken, Pass}
use Rattle.plan_types.specs.declared.plans.Cost.{Cost}
use Rattle.rule_violations.specs.Violations.{violations_of, missing_stops}
use Rattle.rule_violations.specs.declared.violations.Violation.{Violation}

-- b comes before c: by route, then by place, then by stop
abbrev pub IsBefore : Violation → Violation → Type 0
IsBefore b c = (b.route < c.route) ⊎ ((b.route ≡ c.route) × ((b.place < c.place) ⊎ ((b.place ≡ c.place) × (b.stop < c.stop))))

-- each violation comes before all later ones, so none occurs twice
abbrev pub AreAscending : List Violation → Type 0
AreAscending [] = ⊤
AreAscending (b ∷ bs) = AllByRecursion (IsBefore b) bs × AreAscending bs

-- the excess at place i of route r: the load above the capacity, or the time by which service or the return is
-- after the latest time; 0 for the other rules
abbrev pub excess : Instance → List (List ℕ) → Rule → ℕ → ℕ → ℕ
excess p routes Load r i = unsigned_abs (load p (unwrap_or (item_at routes r) []) i -ℤ pos p.capacity)
excess p routes Late r i = start p (unwrap_or (item_at routes r) []) i - (place p (unwrap_or (item_at routes r) []) i).latest
excess p routes LateReturn r i = start p (unwrap_or (item_at routes r) []) i - p.depot.latest
excess p routes rule r i = 0

-- the routes break the rule at this violation's place, with its stop and its excess
abbrev pub IsViolation : Instance → List (List ℕ) → Rule → Violation → Type 0
IsViolation p routes k b = ((cost : ℕ) → Breaks p (printed routes cost) k b.route b.place b.stop) × (b.by ≡ excess p routes k b.route b.place)

-- the list holds exactly these items, in order of route, place and stop
pub record AreAll (B : Violation → Type 0) (found : List Violation) : Type 0 where
  pub each : (b : Violation) → Contains found b ↔ B b
  pub ascending : AreAscending found

-- no stop is repeated
abbrev pub HasNoRepeatedStop : Instance → List (List ℕ) → Type 0
HasNoRepeatedStop p routes = (r i n : ℕ) → IsRepeated p routes r i n → ⊥

-- law: for each of the rules 1 to 8 the list holds all violations; for the rules on pairs, 4 and 5, if no stop
-- is repeated, as the auditor requires too
abbrev pub ListsHoldAllViolations : Type 0
ListsHoldAllViolations =
    (p : Instance) (routes : List (List ℕ)) (k : Rule) → IsInstance p → rule_number k ≤ 8 → (3 < rule_number k → rule_number k < 6 → HasNoRepeatedStop p routes)
    → AreAll (IsViolation p routes k) (violations_of p routes k)

-- the first violation is at place i of route r and reports stop n
abbrev pub BeginsWith : List Violation → ℕ → ℕ → ℕ → Type 0
BeginsWith found r i n = (b : Violation) × (more : List Violation) × (found ≡ b ∷ more) × (b.route ≡ r) × (b.place ≡ i) × (b.stop ≡ n)

-- law: the verdict reports the first violation of its rule's list, and the lists of the earlier rules are empty
abbrev pub VerdictsReportFirstViolations : Type 0
VerdictsReportFirstViolations =
    (p : Instance) (routes : List (List ℕ)) (cost : ℕ) (k : Rule) (r i n : ℕ) → IsInstance p → rule_number k ≤ 8
    → IsVerdict p (printed routes cost) (Broken (rule_number k) r i n)
    → BeginsWith (violations_of p routes k) r i n × ((m : Rule) → rule_number m < rule_number k → violations_of p routes m ≡ [])

-- law: all lists are empty for routes that pass
abbrev pub PassingRoutesHaveNoViolations : Type 0
PassingRoutesHaveNoViolations =
    (p : Instance) (routes : List (List ℕ)) (cost : ℕ) (passed : Cost) (m : Rule) → IsInstance p → IsVerdict p (printed routes cost) (Pass passed)
    → violations_of p routes m ≡ []

-- request `name` has stop n, and none of its stops is in a route
abbrev pub IsStopOfUnserved : Instance → List (List ℕ) → ℕ → ℕ → Type 0
IsStopOfUnserved p routes n name = IsUnserved p routes name × ((request : Request) × (lookup (nat_eq name) p.requests ≡ Some request) × IsSome (stop_in n request))

-- rule 3 reports stop n, at the place of its partner or by its request
abbrev pub IsMissingStop : Instance → List (List ℕ) → ℕ → Type 0
IsMissingStop p routes n = ((r : ℕ) × (i : ℕ) × IsMissing p routes r i n) ⊎ ((name : ℕ) × IsStopOfUnserved p routes n name)

-- law: the stops in no route are those that rule 3 reports
abbrev pub MissingStopsAreReported : Type 0
MissingStopsAreReported = (p : Instance) (routes : List (List ℕ)) (n : ℕ) → IsInstance p → Contains (missing_stops p routes) n ↔ IsMissingStop p routes n

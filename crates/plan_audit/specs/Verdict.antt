-- The verdict of an audit.
use Rattle.std.specs.Prelude.{◌≡◌, ◌≢◌, ℕ, ◌+◌, ◌<◌, ◌≤◌, ◌⊎◌, List, [], ◌∷◌, codes, length, take, nat_eq, nat_lt, Bool, Option, Some, unwrap_or}
use Rattle.std.specs.List.{AllByRecursion}
use Rattle.std.specs.Map.{lookup}
use Rattle.plan_types.specs.Instance.{Instance}
use Rattle.plan_types.specs.Request.{stops_of}
use Rattle.plan_types.specs.declared.requests.Request.{Request}
use Rattle.route_sched.specs.Cost.{cost_of, used_count, total_length}
use Rattle.plan_audit.specs.Rules.{item_at, IsVisited, IsNotAfter, IsUnknown, IsRepeated, IsMissing, IsSplit, IsEarlyDelivery, IsOverloaded, IsLate, IsLateReturn}
use Rattle.plan_audit.specs.declared.rules.Rule.{Rule}
use Rattle.plan_audit.specs.declared.rules.Rule.TheVariants.{UnknownStop, VisitedTwice, MissingStop, SplitPair, EarlyDelivery, Load, Late, LateReturn, Fleet, Pin, PrintedCost}
use Rattle.plan_audit.specs.declared.rules.Verdict.{Verdict}
use Rattle.plan_audit.specs.declared.rules.Verdict.TheVariants.{Pass, Broken}

-- what is audited in a problem: a plan with its pins, or printed routes with their printed cost
pub data Subject : Type 0 where
  planned : List (List ℕ) → List (List ℕ) → Subject
  printed : List (List ℕ) → ℕ → Subject

abbrev pub routes_of : Subject → List (List ℕ)
routes_of (planned routes pins) = routes
routes_of (printed routes cost) = routes

-- the number that is printed for a rule
abbrev pub rule_number : Rule → ℕ
rule_number UnknownStop = 1
rule_number VisitedTwice = 2
rule_number MissingStop = 3
rule_number SplitPair = 4
rule_number EarlyDelivery = 5
rule_number Load = 6
rule_number Late = 7
rule_number LateReturn = 8
rule_number Fleet = 9
rule_number Pin = 10
rule_number PrintedCost = 11

abbrev pub all_rules : List Rule
all_rules =
    UnknownStop ∷ VisitedTwice ∷ MissingStop ∷ SplitPair ∷ EarlyDelivery ∷ Load ∷ Late ∷ LateReturn ∷ Fleet ∷ Pin ∷ PrintedCost ∷ []

-- the rule with a number
abbrev pub rule_of : ℕ → Option Rule
rule_of number = item_at all_rules number

-- whether the rule checks only which stops are at which places, not loads, times or the plan as a whole
abbrev pub is_stop_rule : Rule → Bool
is_stop_rule rule = nat_lt (rule_number rule) (rule_number Load)

-- a short description of the violation, as it is printed
unfoldable pub rule_name : Rule → List ℕ
rule_name UnknownStop = codes "unknown stop"
rule_name VisitedTwice = codes "visited twice"
rule_name MissingStop = codes "missing stop"
rule_name SplitPair = codes "split pair"
rule_name EarlyDelivery = codes "early delivery"
rule_name Load = codes "overload"
rule_name Late = codes "late service"
rule_name LateReturn = codes "late return"
rule_name Fleet = codes "too many vehicles"
rule_name Pin = codes "not as pinned"
rule_name PrintedCost = codes "wrong cost"

-- request n has no stop in any route
abbrev pub IsUnserved : Instance → List (List ℕ) → ℕ → Type 0
IsUnserved p routes n =
    (request : Request) × (lookup (nat_eq n) p.requests ≡ Some request) × AllByRecursion (λ s. IsVisited routes s.number → ⊥) (stops_of request)

-- no route and no place is reported
abbrev pub IsWithoutRoute : ℕ → ℕ → Type 0
IsWithoutRoute r i = (r ≡ 0) × (i ≡ 0)

-- 3, missing: the other stop of a pair is in no route, or printed routes leave request n unserved
abbrev pub IsMissingIn : Instance → Subject → ℕ → ℕ → ℕ → Type 0
IsMissingIn p (planned routes pins) r i n = IsMissing p routes r i n
IsMissingIn p (printed routes cost) r i n = IsMissing p routes r i n ⊎ (IsWithoutRoute r i × IsUnserved p routes n)

-- route r is the first beyond the fleet: it is not empty, and with it the number of used routes is one more
-- than the vehicles
abbrev pub IsBeyondFleet : Instance → List (List ℕ) → ℕ → ℕ → ℕ → Type 0
IsBeyondFleet p routes r i n =
    (i ≡ 0) × (n ≡ 0) × (used_count (take r routes) ≡ p.fleet + 1) × ((route : List ℕ) × (item_at routes r ≡ Some route) × (0 < length route))

-- 9, vehicles: more routes are used than there are vehicles, or a plan does not have one route for each vehicle
abbrev pub IsFleetBroken : Instance → Subject → ℕ → ℕ → ℕ → Type 0
IsFleetBroken p (planned routes pins) r i n = IsBeyondFleet p routes r i n ⊎ (IsWithoutRoute r i × (n ≡ 0) × (length routes ≢ p.fleet))
IsFleetBroken p (printed routes cost) r i n = IsBeyondFleet p routes r i n

-- 10, pins: place i is the first at which route r differs from its pin, and n is the pin's stop at place i
abbrev pub IsPinMismatch : List (List ℕ) → List (List ℕ) → ℕ → ℕ → ℕ → Type 0
IsPinMismatch routes pins r i n =
    let route = unwrap_or (item_at routes r) [] in
    (pin : List ℕ) × (item_at pins r ≡ Some pin) × (item_at pin i ≡ Some n) × (item_at route i ≢ Some n)
    × ((j : ℕ) → 1 ≤ j → j < i → item_at route j ≡ item_at pin j)

abbrev pub IsPinBroken : Instance → Subject → ℕ → ℕ → ℕ → Type 0
IsPinBroken p (planned routes pins) r i n = IsPinMismatch routes pins r i n
IsPinBroken p (printed routes cost) r i n = ⊥

-- 11, cost: the printed cost is not the distance
abbrev pub IsCostBroken : Instance → Subject → ℕ → ℕ → ℕ → Type 0
IsCostBroken p (planned routes pins) r i n = ⊥
IsCostBroken p (printed routes cost) r i n = IsWithoutRoute r i × (n ≡ 0) × (cost ≢ total_length p routes)

-- the rule is broken at place i of route r, and stop n is reported
abbrev pub Breaks : Instance → Subject → Rule → ℕ → ℕ → ℕ → Type 0
Breaks p s UnknownStop r i n = IsUnknown p (routes_of s) r i n
Breaks p s VisitedTwice r i n = IsRepeated p (routes_of s) r i n
Breaks p s MissingStop r i n = IsMissingIn p s r i n
Breaks p s SplitPair r i n = IsSplit p (routes_of s) r i n
Breaks p s EarlyDelivery r i n = IsEarlyDelivery p (routes_of s) r i n
Breaks p s Load r i n = IsOverloaded p (routes_of s) r i n
Breaks p s Late r i n = IsLate p (routes_of s) r i n
Breaks p s LateReturn r i n = IsLateReturn p (routes_of s) r i n
Breaks p s Fleet r i n = IsFleetBroken p s r i n
Breaks p s Pin r i n = IsPinBroken p s r i n
Breaks p s PrintedCost r i n = IsCostBroken p s r i n

-- no rule with a number from low to high is broken
abbrev pub KeepsRules : ℕ → ℕ → Instance → Subject → Type 0
KeepsRules low high p s = (k : Rule) (r i n : ℕ) → low ≤ rule_number k → rule_number k ≤ high → Breaks p s k r i n → ⊥

-- the rule is broken at place i of route r, and this is the first violation of the rules from low to high, by
-- rule, route, place and stop
pub record IsFirstBroken (low high : ℕ) (p : Instance) (s : Subject) (k : Rule) (r i n : ℕ) : Type 0 where
  pub from : low ≤ rule_number k
  pub to : rule_number k ≤ high
  pub broken : Breaks p s k r i n
  pub least : (m : Rule) (q j t : ℕ) → low ≤ rule_number m → rule_number m ≤ high → Breaks p s m q j t
      → (rule_number k < rule_number m) ⊎ ((rule_number k ≡ rule_number m) × IsNotAfter r i n q j t)

-- the verdict reports the first violation of the rules from low to high
abbrev pub IsBrokenWithin : ℕ → ℕ → Instance → Subject → Verdict → Type 0
IsBrokenWithin low high p s (Pass cost) = ⊥
IsBrokenWithin low high p s (Broken rule r i n) = (k : Rule) × (rule ≡ rule_number k) × IsFirstBroken low high p s k r i n

-- the verdict on the rules from low to high: the first violation, or pass with the cost if there is none
abbrev pub IsVerdictWithin : ℕ → ℕ → Instance → Subject → Verdict → Type 0
IsVerdictWithin low high p s (Pass cost) = KeepsRules low high p s × (cost ≡ cost_of p (routes_of s))
IsVerdictWithin low high p s (Broken rule r i n) = (k : Rule) × (rule ≡ rule_number k) × IsFirstBroken low high p s k r i n

-- the verdict of the auditor
abbrev pub IsVerdict : Instance → Subject → Verdict → Type 0
IsVerdict = IsVerdictWithin 1 11

-- the verdict on routes without a printed cost: the verdict on rules 1 to 10 for a solution with these routes,
-- whatever its cost
abbrev pub IsRoutesVerdict : Instance → List (List ℕ) → Verdict → Type 0
IsRoutesVerdict p routes v = (cost : ℕ) → IsVerdictWithin 1 10 p (printed routes cost) v

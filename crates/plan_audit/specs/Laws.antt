-- The meaning of a verdict.
use Rattle.std.specs.Prelude.{◌≡◌, ◌↔◌, ℕ, ◌+◌, ◌<◌, ◌≤◌, ◌≤ℤ◌, pos, All, List, length, Some, ◌⊎◌, nat_eq}
use Rattle.std.specs.Map.{lookup}
use Rattle.plan_types.specs.Instance.{Instance, IsInstance}
use Rattle.plan_types.specs.declared.requests.Request.{Request}
use Rattle.plan_types.specs.declared.requests.Request.TheVariants.{Single, Pair}
use Rattle.plan_types.specs.declared.requests.Kind.TheVariants.{LiLim}
use Rattle.plan_types.specs.declared.plans.Cost.{Cost}
use Rattle.route_sched.specs.Route.{IsKnownStop, AreDistinctStops, IsPlan, place}
use Rattle.route_sched.specs.Schedule.{start, load}
use Rattle.route_sched.specs.Cost.{cost_of, used_count, total_length}
use Rattle.plan_audit.specs.Rules.{item_at, HasStopAt, IsVisited}
use Rattle.plan_audit.specs.Alone.{IsFeasibleAlone}
use Rattle.plan_audit.specs.Verdict.{Subject, planned, printed, routes_of, KeepsRules, IsVerdict, IsRoutesVerdict}
use Rattle.plan_audit.specs.declared.rules.Verdict.{Verdict}
use Rattle.plan_audit.specs.declared.rules.Verdict.TheVariants.{Pass, Broken}

-- stop n is at place i of route r and nowhere else
abbrev pub HasStopOnlyAt : List (List ℕ) → ℕ → ℕ → ℕ → Type 0
HasStopOnlyAt routes r i n = HasStopAt routes r i n × ((q j : ℕ) → HasStopAt routes q j n → (q ≡ r) × (j ≡ i))

-- a stop of the request is in a route
abbrev pub IsPlanned : List (List ℕ) → Request → Type 0
IsPlanned routes (Single s) = IsVisited routes s.number
IsPlanned routes (Pair a b) = IsVisited routes a.number ⊎ IsVisited routes b.number

-- one vehicle visits the stops of the request, each once, the pickup before the delivery
abbrev pub IsServedOnce : List (List ℕ) → Request → Type 0
IsServedOnce routes (Single s) = (r : ℕ) × (i : ℕ) × HasStopOnlyAt routes r i s.number
IsServedOnce routes (Pair a b) = (r : ℕ) × (i : ℕ) × (j : ℕ) × (i < j) × HasStopOnlyAt routes r i a.number × HasStopOnlyAt routes r j b.number

-- the request has this name
abbrev pub IsNamed : Instance → ℕ → Request → Type 0
IsNamed p name request = lookup (nat_eq name) p.requests ≡ Some request

-- place i is a place of a stop in route r
abbrev pub IsPlaceOf : List (List ℕ) → ℕ → List ℕ → ℕ → Type 0
IsPlaceOf routes r route i = (item_at routes r ≡ Some route) × (1 ≤ i) × (i ≤ length route)

-- The vehicles visit only stops of requests. If a stop of a request is visited, the request is served once, by
-- one vehicle, its pickup before its delivery. No vehicle exceeds its capacity. With time windows, each service
-- starts within its stop's window, and each vehicle that leaves returns by the depot's latest time.
pub record IsSoundPlan (p : Instance) (routes : List (List ℕ)) : Type 0 where
  pub live : (r i n : ℕ) → HasStopAt routes r i n → IsKnownStop p n
  pub served : (name : ℕ) (request : Request) → IsNamed p name request → IsPlanned routes request → IsServedOnce routes request
  pub loads : (r i : ℕ) (route : List ℕ) → IsPlaceOf routes r route i → load p route i ≤ℤ pos p.capacity
  pub windows : p.kind ≡ LiLim → (r i : ℕ) (route : List ℕ) → IsPlaceOf routes r route i
      → ((place p route i).earliest ≤ start p route i) × (start p route i ≤ (place p route i).latest)
  pub returns : p.kind ≡ LiLim → (r : ℕ) (route : List ℕ) → item_at routes r ≡ Some route → 0 < length route → start p route (length route + 1) ≤ p.depot.latest

-- each route begins with its pin
abbrev pub KeepsPins : List (List ℕ) → List (List ℕ) → Type 0
KeepsPins routes pins = (r i n : ℕ) → HasStopAt pins r i n → HasStopAt routes r i n

-- law: a plan or solution that passes is sound
abbrev pub PassesAreSound : Type 0
PassesAreSound = (p : Instance) (s : Subject) (cost : Cost) → IsInstance p → IsVerdict p s (Pass cost) → IsSoundPlan p (routes_of s)

-- law: the routes of a plan or solution that passes are a plan, each with distinct stops of current requests
abbrev pub PassesArePlans : Type 0
PassesArePlans = (p : Instance) (s : Subject) (cost : Cost) → IsVerdict p s (Pass cost) → IsPlan p (routes_of s) × All (AreDistinctStops p) (routes_of s)

-- law: a plan or solution that is not sound has the verdict `Broken`
abbrev pub UnsoundIsBroken : Type 0
UnsoundIsBroken =
    (p : Instance) (s : Subject) (v : Verdict) → IsInstance p → (IsSoundPlan p (routes_of s) → ⊥) → IsVerdict p s v
    → (rule : ℕ) × (r : ℕ) × (i : ℕ) × (n : ℕ) × (v ≡ Broken rule r i n)

-- each request is planned
abbrev pub AreAllPlanned : Instance → List (List ℕ) → Type 0
AreAllPlanned p routes = (name : ℕ) (request : Request) → IsNamed p name request → IsPlanned routes request

-- law: a plan passes with its cost exactly if it is sound, has one route for each vehicle and keeps the pins
abbrev pub PlansPassIffSound : Type 0
PlansPassIffSound = (p : Instance) (routes pins : List (List ℕ)) (v : Verdict) → IsInstance p → IsVerdict p (planned routes pins) v
    → (v ≡ Pass (cost_of p routes)) ↔ (IsSoundPlan p routes × (length routes ≡ p.fleet) × KeepsPins routes pins)

-- law: a printed solution passes with its cost exactly if it is sound, plans each request, uses no more
-- vehicles than there are, and its printed cost is its distance
abbrev pub SolutionsPassIffSound : Type 0
SolutionsPassIffSound = (p : Instance) (routes : List (List ℕ)) (cost : ℕ) (v : Verdict) → IsInstance p → IsVerdict p (printed routes cost) v
    → (v ≡ Pass (cost_of p routes)) ↔ (IsSoundPlan p routes × AreAllPlanned p routes × (used_count routes ≤ p.fleet) × (cost ≡ total_length p routes))

-- law: if rules 3 to 8 hold, each route is feasible alone
abbrev pub RoutesAreFeasible : Type 0
RoutesAreFeasible =
    (p : Instance) (s : Subject) → KeepsRules 3 8 p s → (r : ℕ) (route : List ℕ) → item_at (routes_of s) r ≡ Some route → IsFeasibleAlone p route

-- law: routes have the verdict of a solution that prints them with their true distance
abbrev pub RoutesAreJudgedByTrueCost : Type 0
RoutesAreJudgedByTrueCost =
    (p : Instance) (routes : List (List ℕ)) (v : Verdict) → IsRoutesVerdict p routes v ↔ IsVerdict p (printed routes (total_length p routes)) v

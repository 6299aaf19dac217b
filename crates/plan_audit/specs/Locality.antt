-- Verdicts route by route. Searches and commands rely on these laws.
use Rattle.std.specs.Prelude.{◌≡◌, ◌↔◌, ℕ, true, All, List, length, Some, nat_eq, ◌⊎◌}
use Rattle.std.specs.List.{starts_with}
use Rattle.plan_types.specs.Instance.{Instance, IsInstance, request_with}
use Rattle.route_sched.specs.Route.{AreDistinctStops, IsPlan}
use Rattle.route_sched.specs.Cost.{cost_of}
use Rattle.plan_audit.specs.Rules.{item_at, HasStopAt}
use Rattle.plan_audit.specs.Alone.{IsFeasibleAlone, IsFaultAlone}
use Rattle.plan_audit.specs.Laws.{KeepsPins}
use Rattle.plan_audit.specs.Passes.{feasible_alone, passes}
use Rattle.plan_audit.specs.Verdict.{Subject, planned, IsVerdict}
use Rattle.plan_audit.specs.declared.rules.Verdict.{Verdict}
use Rattle.plan_audit.specs.declared.rules.Verdict.TheVariants.{Pass}

-- law: an audit has only one answer
abbrev pub VerdictsAreUnique : Type 0
VerdictsAreUnique = (p : Instance) (s : Subject) (v w : Verdict) → IsVerdict p s v → IsVerdict p s w → v ≡ w

-- law: there is a function that maps every plan and every printed solution to its verdict
abbrev pub SubjectsHaveVerdicts : Type 0
SubjectsHaveVerdicts = (verdict : Instance → Subject → Verdict) × ((p : Instance) (s : Subject) → IsInstance p → IsVerdict p s (verdict p s))

-- law: a list of distinct current stops is feasible alone, or there is a first rule that it breaks alone
abbrev pub RoutesHaveAnswers : Type 0
RoutesHaveAnswers = (p : Instance) (route : List ℕ) → AreDistinctStops p route → IsFeasibleAlone p route ⊎ ((number : ℕ) × IsFaultAlone p route number)

-- law: the test `feasible_alone` is true exactly if the route is feasible alone
abbrev pub FeasibleAloneDecidesFeasibility : Type 0
FeasibleAloneDecidesFeasibility = (p : Instance) (route : List ℕ) → (feasible_alone p route ≡ true) ↔ IsFeasibleAlone p route

-- law: the test `passes` of a plan is true exactly if the verdict on the plan is to pass
abbrev pub PassesDecidesTheVerdict : Type 0
PassesDecidesTheVerdict = (p : Instance) (pins routes : List (List ℕ)) → (passes p pins routes ≡ true) ↔ IsVerdict p (planned routes pins) (Pass (cost_of p routes))

-- the stops are distinct stops of current requests, each vehicle has a route, and each route is feasible alone
-- and begins with its pin
pub record IsPassing (p : Instance) (pins routes : List (List ℕ)) : Type 0 where
  pub plan : IsPlan p routes
  pub fleet : length routes ≡ p.fleet
  pub feasible : All (IsFeasibleAlone p) routes
  pub pinned : KeepsPins routes pins

-- law: a plan passes exactly if `IsPassing` holds, so after a change of some routes only these routes need a
-- check
abbrev pub PassingIsLocal : Type 0
PassingIsLocal = (p : Instance) (pins routes : List (List ℕ)) → (passes p pins routes ≡ true) ↔ IsPassing p pins routes

-- no stop is in two routes
abbrev pub ShareNoStop : List (List ℕ) → Type 0
ShareNoStop routes = (q j r i n : ℕ) → HasStopAt routes q j n → HasStopAt routes r i n → q ≡ r

-- law: routes are a plan exactly if each has distinct current stops and no two share a stop
abbrev pub PlansAreDisjointRoutes : Type 0
PlansAreDisjointRoutes = (p : Instance) (routes : List (List ℕ)) → IsPlan p routes ↔ (All (AreDistinctStops p) routes × ShareNoStop routes)

-- law: each pin of a passing plan has distinct current stops
abbrev pub PinsAreDistinctStops : Type 0
PinsAreDistinctStops = (p : Instance) (pins routes : List (List ℕ)) → passes p pins routes ≡ true → All (AreDistinctStops p) pins

-- the list can be route r: its stops are distinct and current, it is feasible alone, and it begins with pin r
pub record CanBeRoute (p : Instance) (pins : List (List ℕ)) (r : ℕ) (route : List ℕ) : Type 0 where
  pub stops : AreDistinctStops p route
  pub feasible : feasible_alone p route ≡ true
  pub pinned : (pin : List ℕ) → item_at pins r ≡ Some pin → starts_with nat_eq route pin ≡ true

-- law: a plan that passes still passes after some of its routes r are replaced by lists that meet `CanBeRoute`
-- for r, if no stop is in two routes of the new plan
abbrev pub RoutesMayBeReplaced : Type 0
RoutesMayBeReplaced = (p : Instance) (pins routes others : List (List ℕ)) → passes p pins routes ≡ true → length others ≡ length routes → ShareNoStop others
    → ((r : ℕ) (route : List ℕ) → item_at others r ≡ Some route → (item_at routes r ≡ Some route) ⊎ CanBeRoute p pins r route)
    → passes p pins others ≡ true

-- the same kind, depot and capacity, and for each of these numbers the same request or none
pub record AgreeOnRequests (p q : Instance) (numbers : List ℕ) : Type 0 where
  pub kind : p.kind ≡ q.kind
  pub depot : p.depot ≡ q.depot
  pub capacity : p.capacity ≡ q.capacity
  pub requests : All (λ n. request_with p n ≡ request_with q n) numbers

-- law: feasibility of a route alone depends only on the route's own requests
abbrev pub FeasibilityIsLocal : Type 0
FeasibilityIsLocal = (p q : Instance) (route : List ℕ) → AgreeOnRequests p q route → feasible_alone p route ≡ feasible_alone q route

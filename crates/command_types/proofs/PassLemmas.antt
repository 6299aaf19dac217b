-- The test of a plan, split into its parts. A plan that passes in one problem also passes in another one with
-- the same current stops.
use Rattle.std.proofs.Common.{◌≡◌, ℕ, true, ◌&&◌, List, [], ◌∷◌, length, is_some, refl, sym, ap, ◌∙◌, eqb}
use Rattle.std.specs.List.{AllByRecursion, list_all, concat}
use Rattle.std.proofs.lemmas.Bool.{and_parts, and_from, eqb-true, eq-eqb}
use Rattle.std.proofs.lemmas.List.Elements.{All-from_recursion, recursion_from_All}
use Rattle.plan_types.specs.Instance.{Instance, stop_at, request_with}
use Rattle.plan_types.specs.Laws.{IsSameAt}
use Rattle.route_sched.specs.Route.{IsKnownStop, AreDistinctStops}
use Rattle.plan_audit.specs.Passes.{are_distinct, are_distinct_stops, begin_with_pins, feasible_alone, passes}
use Rattle.plan_audit.specs.Locality.{FeasibilityIsLocal, PassingIsLocal, PlansAreDisjointRoutes, PinsAreDistinctStops}

-- The parts of the test of a plan
pub record Parts (p : Instance) (pins routes : List (List ℕ)) : Type 0 where
  pub known : list_all (λ n. is_some (stop_at p n)) (concat routes) ≡ true
  pub distinct : are_distinct (concat routes) ≡ true
  pub fleet : length routes ≡ p.fleet
  pub feasible : list_all (feasible_alone p) routes ≡ true
  pub pinned : begin_with_pins routes pins ≡ true

pub parts_of : (p : Instance) (pins routes : List (List ℕ)) → passes p pins routes ≡ true → Parts p pins routes
unfolding passes
parts_of p pins routes good =
    let a = and_parts (are_distinct_stops p (concat routes)) _ good in
    let b = and_parts (list_all (λ n. is_some (stop_at p n)) (concat routes)) (are_distinct (concat routes)) a.0 in
    let c = and_parts (eqb (length routes) p.fleet) _ a.1 in
    let d = and_parts (list_all (feasible_alone p) routes) (begin_with_pins routes pins) c.1 in
    record { known = b.0; distinct = b.1; fleet = eqb-true (length routes) p.fleet c.0; feasible = d.0; pinned = d.1 }

pub from_parts : (p : Instance) (pins routes : List (List ℕ)) → Parts p pins routes → passes p pins routes ≡ true
unfolding passes
from_parts p pins routes parts =
    and_from (are_distinct_stops p (concat routes)) _ (and_from (list_all (λ n. is_some (stop_at p n)) (concat routes)) (are_distinct (concat routes)) (parts.known) (parts.distinct))
    (and_from (eqb (length routes) p.fleet) _ (eq-eqb (length routes) p.fleet (parts.fleet))
    (and_from (list_all (feasible_alone p) routes) (begin_with_pins routes pins) (parts.feasible) (parts.pinned)))

-- Routes of a plan that passes have current stops
pub routes_known : PassingIsLocal → PlansAreDisjointRoutes → (p : Instance) (pins routes : List (List ℕ)) → passes p pins routes ≡ true → AllByRecursion (AreDistinctStops p) routes
routes_known local plans p pins routes good = recursion_from_All (AreDistinctStops p) routes (((plans p routes).0 (((local p pins routes).0 good).plan)).0)

pub pins_known : PinsAreDistinctStops → (p : Instance) (pins routes : List (List ℕ)) → passes p pins routes ≡ true → AllByRecursion (AreDistinctStops p) pins
pins_known law p pins routes good = recursion_from_All (AreDistinctStops p) pins (law p pins routes good)

-- The two problems agree on every stop that has the property P
pub record Agree (p q : Instance) (P : ℕ → Type 0) : Type 0 where
  pub kind : p.kind ≡ q.kind
  pub depot : p.depot ≡ q.depot
  pub capacity : p.capacity ≡ q.capacity
  pub fleet : p.fleet ≡ q.fleet
  pub same : (n : ℕ) → P n → IsSameAt p q n

module _ (p q : Instance) (P : ℕ → Type 0) (agree : Agree p q P) where
  requests_same : (ns : List ℕ) → AllByRecursion P ns → AllByRecursion (λ n. request_with p n ≡ request_with q n) ns
  requests_same [] all = tt
  requests_same (n ∷ ns) all = (let same = (agree.same) n all.0 in sym (same.request), requests_same ns all.1)

  pub feasible_same : FeasibilityIsLocal → (route : List ℕ) → AllByRecursion P route → feasible_alone p route ≡ feasible_alone q route
  feasible_same law route all =
      law p q route (record {
        kind = agree.kind;
        depot = agree.depot;
        capacity = agree.capacity;
        requests = All-from_recursion (λ n. request_with p n ≡ request_with q n) route (requests_same route all);
      })

  pub all_feasible_same : FeasibilityIsLocal → (lists : List (List ℕ)) → AllByRecursion (AllByRecursion P) lists → list_all (feasible_alone p) lists ≡ list_all (feasible_alone q) lists
  all_feasible_same law [] all = refl
  all_feasible_same law (l ∷ lists) all = ap (λ b. b && list_all (feasible_alone p) lists) (feasible_same law l all.0) ∙ ap (λ b. feasible_alone q l && b) (all_feasible_same law lists all.1)

  pub known_same : (ns : List ℕ) → AllByRecursion P ns → list_all (λ n. is_some (stop_at p n)) ns ≡ list_all (λ n. is_some (stop_at q n)) ns
  known_same [] all = refl
  known_same (n ∷ ns) all =
      let same = (agree.same) n all.0 in
      ap (λ o. is_some o && list_all (λ n. is_some (stop_at p n)) ns) (sym (same.stop)) ∙ ap (λ b. is_some (stop_at q n) && b) (known_same ns all.1)

pub numbers_known : (p : Instance) (lists : List (List ℕ)) → AllByRecursion (AreDistinctStops p) lists → AllByRecursion (AllByRecursion (IsKnownStop p)) lists
numbers_known p [] all = tt
numbers_known p (l ∷ lists) all = (let once = all.0 in recursion_from_All (IsKnownStop p) l (once.live), numbers_known p lists all.1)

pub all_known : (p : Instance) (ns : List ℕ) → list_all (λ n. is_some (stop_at p n)) ns ≡ true → AllByRecursion (IsKnownStop p) ns
all_known p [] test = tt
all_known p (n ∷ ns) test = let both = and_parts (is_some (stop_at p n)) (list_all (λ n. is_some (stop_at p n)) ns) test in (both.0, all_known p ns both.1)

-- If two problems agree on all current stops, a plan that passes in one passes in the other
pub passes_same : FeasibilityIsLocal → PassingIsLocal → PlansAreDisjointRoutes → (p q : Instance) (pins routes : List (List ℕ)) → Agree p q (IsKnownStop p)
    → passes p pins routes ≡ true → passes q pins routes ≡ true
passes_same law local plans p q pins routes agree good =
    let parts = parts_of p pins routes good in
    from_parts q pins routes (record {
      known = sym (known_same p q (IsKnownStop p) agree (concat routes) (all_known p (concat routes) (parts.known))) ∙ parts.known;
      distinct = parts.distinct;
      fleet = parts.fleet ∙ agree.fleet;
      feasible = sym (all_feasible_same p q (IsKnownStop p) agree law routes (numbers_known p routes (routes_known local plans p pins routes good))) ∙ parts.feasible;
      pinned = parts.pinned;
    })

-- A plan made from the routes of one that passes.
use Rattle.std.proofs.Common.{◌≡◌, ℕ, zero, suc, ◌≤◌, Bool, true, false, List, [], ◌∷◌, All}
use Rattle.std.proofs.Common.{length, map, Some, slice_get, refl, sym, ap, subst, ◌∙◌, inl, inr, arith}
use Rattle.std.specs.List.{AllByRecursion, list_all, concat}
use Rattle.std.proofs.lemmas.Bool.{cases_Bool, and_parts, and_from}
use Rattle.std.proofs.lemmas.List.Elements.{All-from_recursion, recursion_from_All}
use Rattle.plan_types.specs.Instance.{Instance}
use Rattle.route_sched.specs.Route.{AreDistinctStops, IsPlan}
use Rattle.plan_audit.specs.Alone.{IsFeasibleAlone}
use Rattle.plan_audit.specs.Laws.{KeepsPins}
use Rattle.plan_audit.specs.Locality.{PassingIsLocal, PlansAreDisjointRoutes, FeasibleAloneDecidesFeasibility}
use Rattle.plan_audit.specs.Passes.{feasible_alone, passes}
use Rattle.plan_audit.specs.Rules.{item_at, HasStopAt}
use Rattle.move_ops.proofs.OccurrenceLemmas.{none_some, some_same, times, times-append, occurs_at}
use Rattle.move_ops.proofs.ReplacementLemmas.{passes_too}

-- a test of all items, and what it says about each
module _ {X : Type 0} (test : X → Bool) (P : X → Type 0) where
  all_said : ((x : X) → test x ≡ true → P x) → (xs : List X) → list_all test xs ≡ true → AllByRecursion P xs
  all_said says [] t = tt
  all_said says (x ∷ xs) t = let both = and_parts (test x) (list_all test xs) t in (says x both.0, all_said says xs both.1)

  said_all : ((x : X) → P x → test x ≡ true) → (xs : List X) → AllByRecursion P xs → list_all test xs ≡ true
  said_all holds [] all = refl
  said_all holds (x ∷ xs) all = and_from (test x) (list_all test xs) (holds x all.0) (said_all holds xs all.1)

-- an item of a route is an item of the plan
occurs_within : (lists : List (List ℕ)) (k i n : ℕ) (list : List ℕ) → slice_get lists k ≡ Some list → slice_get list i ≡ Some n → 1 ≤ times n (concat lists)
occurs_within [] k i n list at there = absurd (none_some list at)
occurs_within (first ∷ rest) zero i n list at there =
    let e = times-append n first (concat rest) in
    let h = occurs_at n i first (subst (λ l. slice_get l i ≡ Some n) (sym (some_same first list at)) there) in
    omega arith
occurs_within (first ∷ rest) (suc k) i n list at there =
    let e = times-append n first (concat rest) in let h = occurs_within rest k i n list at there in omega arith

pub occurs_in_plan : (lists : List (List ℕ)) (r i n : ℕ) → HasStopAt lists r i n → 1 ≤ times n (concat lists)
occurs_in_plan lists zero i n s = absurd (none_some s.0 s.1)
occurs_in_plan lists (suc k) zero n s = absurd (none_some n s.2)
occurs_in_plan lists (suc k) (suc i) n s = occurs_within lists k i n s.0 s.1 s.2

module _ (local : PassingIsLocal) (says : FeasibleAloneDecidesFeasibility) (p : Instance) (pins routes : List (List ℕ)) (good : passes p pins routes ≡ true) where
  feasible_said : (others : List (List ℕ)) → list_all (feasible_alone p) others ≡ true → All (IsFeasibleAlone p) others
  feasible_said others t = All-from_recursion (IsFeasibleAlone p) others (all_said (feasible_alone p) (IsFeasibleAlone p) (λ x h. (says p x).0 h) others t)

  pub said_feasible : (others : List (List ℕ)) → All (IsFeasibleAlone p) others → list_all (feasible_alone p) others ≡ true
  said_feasible others all = said_all (feasible_alone p) (IsFeasibleAlone p) (λ x h. (says p x).1 h) others (recursion_from_All (IsFeasibleAlone p) others all)

  -- a plan with equally many routes that keeps the pins passes exactly when all its routes are feasible
  pub passes_where_feasible : (others : List (List ℕ)) → IsPlan p others → length others ≡ length routes → KeepsPins others pins
      → (b : Bool) → b ≡ list_all (feasible_alone p) others → passes p pins others ≡ b
  passes_where_feasible others plan same kept true e = passes_too local p pins routes good others plan same (feasible_said others (sym e)) kept
  passes_where_feasible others plan same kept false e = elim (cases_Bool (passes p pins others)) [
    | inr fails ↦ fails
    | inl passed ↦ absurd (let h = said_feasible others (((local p pins others).0 passed).feasible) in let k : false ≡ true = e ∙ h in cc)
  ]

-- the stops of each route of a plan are current and distinct
pub each_once : PlansAreDisjointRoutes → (p : Instance) (others : List (List ℕ)) → IsPlan p others → All (AreDistinctStops p) others
each_once plans p others plan = ((plans p others).0 plan).0

-- the item at index r of routes that are each changed by f
pub item_map : (f : List ℕ → List ℕ) (routes : List (List ℕ)) (r : ℕ) (route : List ℕ) → item_at routes r ≡ Some route
    → item_at (map f routes) r ≡ Some (f route)
item_map f routes zero route at = absurd (none_some route at)
item_map f [] (suc k) route at = absurd (none_some route at)
item_map f (first ∷ rest) (suc zero) route at = ap (λ l. Some (f l)) (some_same first route at)
item_map f (first ∷ rest) (suc (suc k)) route at = item_map f rest (suc k) route at

-- routes that are changed one by one keep the pins if each of them keeps its pin
pub pins_map : (f : List ℕ → List ℕ) (routes pins : List (List ℕ)) → KeepsPins routes pins
    → ((pin route : List ℕ) → ((k n : ℕ) → slice_get pin k ≡ Some n → slice_get route k ≡ Some n)
    → ((k n : ℕ) → slice_get pin k ≡ Some n → 1 ≤ times n (concat pins))
    → (k n : ℕ) → slice_get pin k ≡ Some n → slice_get (f route) k ≡ Some n)
    → KeepsPins (map f routes) pins
pins_map f routes pins kept keeps r zero n s = absurd (none_some n s.2)
pins_map f routes pins kept keeps r (suc i) n s =
    let k = kept r (suc i) n s in (
      f k.0,
      item_map f routes r k.0 k.1,
      keeps s.0 k.0
          (λ j m at. let h = kept r (suc j) m (s.0, s.1, at) in subst (λ l. slice_get l j ≡ Some m) (some_same h.0 k.0 (sym h.1 ∙ k.1)) h.2)
          (λ j m at. occurs_in_plan pins r (suc j) m (s.0, s.1, at))
          i n s.2,
    )

-- A plan with another route for a vehicle.
use Rattle.std.proofs.Common.{◌≡◌, ℕ, zero, suc, ◌+◌, ◌-◌, ◌<◌, ◌≤◌, true, List, [], ◌∷◌, All}
use Rattle.std.proofs.Common.{length, set, Option, Some, slice_get, refl, sym, ap, subst, ◌∙◌, inl, inr, arith}
use Rattle.std.specs.Prelude.{unwrap_or}
use Rattle.std.specs.List.{concat}
use Rattle.std.proofs.lemmas.Bool.Decides.{eqb_tells}
use Rattle.std.proofs.lemmas.List.Elements.{All-get_or}
use Rattle.std.proofs.lemmas.Option.{slice_get-get_or, unwrap_or-slice_get, slice_get_within, get_or_from_slice_get}
use Rattle.plan_types.specs.Instance.{Instance}
use Rattle.route_sched.specs.Route.{IsPlan}
use Rattle.plan_audit.specs.Alone.{IsFeasibleAlone}
use Rattle.plan_audit.specs.Laws.{KeepsPins}
use Rattle.plan_audit.specs.Locality.{IsPassing, PassingIsLocal}
use Rattle.plan_audit.specs.Passes.{passes}
use Rattle.plan_audit.specs.Rules.{item_at, HasStopAt}
use Rattle.move_ops.specs.Insertion.{route_of, with_route}
use Rattle.move_ops.proofs.OccurrenceLemmas.{none_some, some_same, times, times-append, times_replaced}

pub get_set : {X : Type 0} (xs : List X) (k : ℕ) (y : X) → k < length xs → slice_get (set xs k y) k ≡ Some y
get_set [] k y within = absurd (omega arith)
get_set (x ∷ xs) zero y within = refl
get_set (x ∷ xs) (suc k) y within = get_set xs k y (omega arith)

pub get_set_other : {X : Type 0} (xs : List X) (k j : ℕ) (y : X) → (j ≡ k → ⊥) → slice_get (set xs k y) j ≡ slice_get xs j
get_set_other [] k j y apart = refl
get_set_other (x ∷ xs) zero zero y apart = absurd (apart refl)
get_set_other (x ∷ xs) zero (suc j) y apart = refl
get_set_other (x ∷ xs) (suc k) zero y apart = refl
get_set_other (x ∷ xs) (suc k) (suc j) y apart = get_set_other xs k j y (λ e. apart (ap suc e))

-- the item of a vehicle after it is set, with vehicles counted from 1
pub item_set : {X : Type 0} (xs : List X) (v : ℕ) (y : X) → 1 ≤ v → v ≤ length xs → item_at (set xs (v - 1) y) v ≡ Some y
item_set xs zero y from within = absurd (omega arith)
item_set xs (suc k) y from within = let e : suc k - 1 ≡ k = omega arith in rw e (get_set xs k y (omega arith))

pub item_set_other : {X : Type 0} (xs : List X) (v r : ℕ) (y : X) → 1 ≤ v → (r ≡ v → ⊥) → item_at (set xs (v - 1) y) r ≡ item_at xs r
item_set_other xs v zero y from apart = refl
item_set_other xs zero (suc j) y from apart = absurd (omega arith)
item_set_other xs (suc k) (suc j) y from apart = let e : suc k - 1 ≡ k = omega arith in rw e (get_set_other xs k j y (λ same. apart (ap suc same)))

pub at_vehicle : (lists : List (List ℕ)) (v : ℕ) → 1 ≤ v → v ≤ length lists → slice_get lists (v - 1) ≡ Some (route_of lists v)
at_vehicle lists zero from within = absurd (omega arith)
at_vehicle lists (suc k) from within =
    let e : suc k - 1 ≡ k = omega arith in rw e (slice_get-get_or lists k [] (omega arith) ∙ ap Some (sym (unwrap_or-slice_get lists k [])))

pub in_vehicle : (lists : List (List ℕ)) (r i n : ℕ) → HasStopAt lists r i n → item_at (route_of lists r) i ≡ Some n
in_vehicle lists r i n s = subst (λ (o : Option (List ℕ)). item_at (unwrap_or o []) i ≡ Some n) (sym s.1) s.2

pub within_list : (xs : List ℕ) (i n : ℕ) → item_at xs i ≡ Some n → i ≤ length xs
within_list xs zero n at = omega arith
within_list xs (suc k) n at = let h = slice_get_within xs k n at in omega arith

-- another vehicle's route is unchanged
pub other_vehicle : (routes : List (List ℕ)) (v r : ℕ) (new : List ℕ) → 1 ≤ v → (r ≡ v → ⊥) → route_of (with_route routes v new) r ≡ route_of routes r
other_vehicle routes v r new from apart = ap (λ (o : Option (List ℕ)). unwrap_or o []) (item_set_other routes v r new from apart)

-- how often number n occurs in the routes after the change
pub times_with : (n : ℕ) (routes : List (List ℕ)) (v : ℕ) (new : List ℕ) → 1 ≤ v → v ≤ length routes
    → times n (concat (with_route routes v new)) + times n (route_of routes v) ≡ times n (concat routes) + times n new
times_with n routes v new from within = times_replaced n routes (v - 1) (route_of routes v) new (at_vehicle routes v from within)

times_at : (n : ℕ) (routes : List (List ℕ)) (k : ℕ) (route : List ℕ) → slice_get routes k ≡ Some route → times n route ≤ times n (concat routes)
times_at n [] k route at = absurd (none_some route at)
times_at n (first ∷ rest) zero route at = let same = ap (times n) (some_same first route at) in let e = times-append n first (concat rest) in omega arith
times_at n (first ∷ rest) (suc k) route at = let e = times-append n first (concat rest) in let h = times_at n rest k route at in omega arith

pub times_in_vehicle : (n : ℕ) (routes : List (List ℕ)) (v : ℕ) → 1 ≤ v → v ≤ length routes → times n (route_of routes v) ≤ times n (concat routes)
times_in_vehicle n routes v from within = times_at n routes (v - 1) (route_of routes v) (at_vehicle routes v from within)

-- the pins are kept if the new route keeps its pin's stops
pub pins_with : (routes pins : List (List ℕ)) (v : ℕ) (new : List ℕ) → 1 ≤ v → v ≤ length routes → KeepsPins routes pins
    → ((i n : ℕ) → item_at (route_of pins v) i ≡ Some n → item_at (route_of routes v) i ≡ Some n → item_at new i ≡ Some n)
    → KeepsPins (with_route routes v new) pins
pins_with routes pins v new from within kept before r i n s = elim (eqb_tells r v) [
  | inl t ↦ (
      let k = kept r i n s in (
        new,
        subst (λ u. item_at (set routes (v - 1) new) u ≡ Some new) (sym t.1) (item_set routes v new from within),
        before i n (subst (λ u. item_at (route_of pins u) i ≡ Some n) t.1 (in_vehicle pins r i n s))
            (subst (λ u. item_at (route_of routes u) i ≡ Some n) t.1 (in_vehicle routes r i n k)),
      ))
  | inr t ↦ (let k = kept r i n s in (k.0, item_set_other routes v r new from t.1 ∙ k.1, k.2))
]

-- the vehicle has the new route
pub same_vehicle : (routes : List (List ℕ)) (v : ℕ) (new : List ℕ) → 1 ≤ v → v ≤ length routes → route_of (with_route routes v new) v ≡ new
same_vehicle routes v new from within = ap (λ (o : Option (List ℕ)). unwrap_or o []) (item_set routes v new from within)

-- a property of all routes holds for a vehicle's route
pub all_at : (P : List ℕ → Type 0) (routes : List (List ℕ)) (v : ℕ) → 1 ≤ v → v ≤ length routes → All P routes → P (route_of routes v)
all_at P routes v from within all =
    subst P (get_or_from_slice_get routes (v - 1) (route_of routes v) [] (at_vehicle routes v from within))
    (All-get_or P routes (v - 1) [] (omega arith) all)

module _ (local : PassingIsLocal) (p : Instance) (pins routes : List (List ℕ)) (good : passes p pins routes ≡ true) where
  pub parts : IsPassing p pins routes
  parts = (local p pins routes).0 good

  -- a plan with equally many routes, each feasible alone, that keeps the pins passes
  pub passes_too : (others : List (List ℕ)) → IsPlan p others → length others ≡ length routes → All (IsFeasibleAlone p) others
      → KeepsPins others pins → passes p pins others ≡ true
  passes_too others plan same feasible kept = (local p pins others).1 (record { plan = plan; fleet = same ∙ parts.fleet; feasible = feasible; pinned = kept })

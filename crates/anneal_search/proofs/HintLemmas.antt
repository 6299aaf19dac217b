-- A stop of a plan that passes is current, and is in one route, at one place
use Rattle.std.proofs.Common.{◌≡◌, ℕ, zero, suc, ◌≤◌, true, false, List, [], ◌∷◌, length, Option, Some, None, refl, sym, ap, subst, ◌∙◌, inl, inr, arith}
use Rattle.std.specs.Prelude.{slice_get, unwrap_or}
use Rattle.std.proofs.lemmas.Bool.{cases_Bool, both_ways}
use Rattle.std.proofs.lemmas.Grind.{get_or_default_zero}
use Rattle.std.proofs.lemmas.Option.{slice_get_cases, slice_get_within}
use Rattle.plan_types.specs.Instance.{Instance}
use Rattle.route_sched.specs.Cost.{has_stop}
use Rattle.route_sched.specs.Route.{IsKnownStop, AreDistinctStops}
use Rattle.plan_audit.specs.Locality.{PassingIsLocal, PlansAreDisjointRoutes}
use Rattle.plan_audit.specs.Passes.{has, passes}
use Rattle.plan_audit.specs.Rules.{item_at, HasStopAt}
use Rattle.move_ops.specs.Insertion.{route_of}
use Rattle.seeded_search.specs.declared.spatial_index.RoutePlace.{RoutePlace}
use Rattle.anneal_search.specs.NearestStops.{IsAtPlace}
use Rattle.move_ops.proofs.DraftLemmas.{has_in_vehicle}
use Rattle.move_ops.proofs.ReplacementLemmas.{all_at}
use Rattle.move_ops.proofs.OccurrenceLemmas.{times, one_here, none_some, some_same, occurs_at, none_anywhere, once_few, once_known}

one_place : (n : ℕ) (xs : List ℕ) (q r : ℕ) → times n xs ≤ 1 → slice_get xs q ≡ Some n → slice_get xs r ≡ Some n → q ≡ r
one_place n [] q r few first second = absurd (none_some n first)
one_place n (x ∷ xs) zero zero few first second = refl
one_place n (x ∷ xs) zero (suc r) few first second = let here = one_here n x (sym (some_same x n first)) in let later = occurs_at n r xs second in absurd (omega arith)
one_place n (x ∷ xs) (suc q) zero few first second = let here = one_here n x (sym (some_same x n second)) in let later = occurs_at n q xs first in absurd (omega arith)
one_place n (x ∷ xs) (suc q) (suc r) few first second = ap suc (one_place n xs q r (omega arith) first second)

-- No route has the stop
pub nowhere : (routes : List (List ℕ)) (n : ℕ) → has_stop routes n ≡ false → (v q : ℕ) → slice_get (route_of routes v) q ≡ Some n → ⊥
nowhere routes n none v q at = elim (cases_Bool (has (route_of routes v) n)) [
  | inl t ↦ both_ways (has_stop routes n) none (has_in_vehicle routes v n t)
  | inr f ↦ (let away = none_anywhere n (route_of routes v) f in let here = occurs_at n q (route_of routes v) at in omega arith)
]

module _ (local : PassingIsLocal) (plans : PlansAreDisjointRoutes) (p : Instance) (pins routes : List (List ℕ)) (good : passes p pins routes ≡ true) where
  has_stop_at : (v q n : ℕ) → slice_get (route_of routes v) q ≡ Some n → HasStopAt routes v (suc q) n
  has_stop_at v q n at = by (item_at routes v) refl at
    where
      by : (o : Option (List ℕ)) → item_at routes v ≡ o → slice_get (unwrap_or o []) q ≡ Some n → HasStopAt routes v (suc q) n
      by None is at = absurd (none_some n at)
      by (Some route) is at = (route, is, at)

  fleet : (v : ℕ) (route : List ℕ) → item_at routes v ≡ Some route → (1 ≤ v) × (v ≤ length routes)
  fleet zero route is = absurd (none_some route is)
  fleet (suc k) route is = let low = slice_get_within routes k route is in (omega arith, omega arith)

  once_in : (v q n : ℕ) → slice_get (route_of routes v) q ≡ Some n → AreDistinctStops p (route_of routes v)
  once_in v q n at =
      let there = has_stop_at v q n at in
      let within = fleet v there.0 there.1 in
      all_at (AreDistinctStops p) routes v within.0 within.1 ((plans p routes).0 ((local p pins routes).0 good).plan).0

  pub known_there : (v q n : ℕ) → slice_get (route_of routes v) q ≡ Some n → IsKnownStop p n
  known_there v q n at = once_known p (route_of routes v) (once_in v q n at) n (occurs_at n q (route_of routes v) at)

  pub once_there : (v q w r n : ℕ) → slice_get (route_of routes v) q ≡ Some n → slice_get (route_of routes w) r ≡ Some n → (v ≡ w) × (q ≡ r)
  once_there v q w r n first second =
      let same : v ≡ w = ((plans p routes).0 ((local p pins routes).0 good).plan).1 v (suc q) w (suc r) n (has_stop_at v q n first) (has_stop_at w r n second) in (
        same,
        one_place n (route_of routes v) q r (once_few p (route_of routes v) (once_in v q n first) n) first (subst (λ u. slice_get
            (route_of routes u) r ≡ Some n) (sym same) second),
      )

-- A hint that is right names the place that has the stop
pub stop_there : (routes : List (List ℕ)) (stop : ℕ) (route_place : RoutePlace) → IsAtPlace routes stop route_place → slice_get (route_of routes route_place.vehicle) route_place.place ≡ Some stop
stop_there routes stop route_place is = elim (slice_get_cases (route_of routes route_place.vehicle) route_place.place).1 [
  | inl there ↦ there.2 ∙ ap (λ n. Some n) (sym there.3 ∙ (get_or_default_zero (route_of routes route_place.vehicle) route_place.place there.0 there.1 ∙ is.1))
  | inr past ↦ (let low = is.0 in let high = past.0 in absurd (omega arith))
]

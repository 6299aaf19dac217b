-- Lists of nearest stops that were not made yet are valid. The eastings of stops, collected number by number and
-- then sorted, are those of all stops.
use Rattle.std.proofs.Common.{◌≡◌, ℕ, ◌+◌, ◌++◌, [], List, All, Option, Some, None, refl, sym, ap, subst, inl, inr, arith, Vec, Global, slice_get}
use Rattle.std.specs.Prelude.{IfSome, IsSome}
use Rattle.std.specs.List.Sorted.{IsPermutation}
use Rattle.std.specs.Option.{option_map, option_to_list}
use Rattle.std.proofs.lemmas.Bool.{cases_order}
use Rattle.std.proofs.lemmas.List.Elements.{All-append, All-cons, Contains-append_left, Contains-append_right}
use Rattle.std.proofs.lemmas.List.Sorted.{All-permutation, Contains-permutation}
use Rattle.std.proofs.lemmas.Option.{slice_get_cases}
use Rattle.plan_types.specs.Instance.{Instance, stop_at}
use Rattle.plan_types.specs.declared.requests.Stop.{Stop}
use Rattle.route_sched.specs.Route.{IsKnownStop}
use Rattle.seeded_search.specs.SpatialIndex.{IsNearestStopListOf, east_of, easting_at, IsEasting, HaveStop, AreEastingsBelow}
use Rattle.seeded_search.specs.declared.spatial_index.Easting.{Easting}

pub none_made : (p : Instance) (nearest_stops : List (Vec ℕ Global)) → All (λ stops. stops.items ≡ []) nearest_stops
    → (k : ℕ) → IfSome (slice_get nearest_stops k) (λ stops. IsNearestStopListOf p k stops.items)
none_made p nearest_stops all k = elim (slice_get_cases nearest_stops k).1 [
  | inl some ↦ subst (λ o. IfSome o (λ stops. IsNearestStopListOf p k stops.items)) (sym some.2)
      (inl (subst (λ stops. stops.items ≡ []) some.3 (all k some.0 some.1)))
  | inr none ↦ subst (λ o. IfSome o (λ stops. IsNearestStopListOf p k stops.items)) (sym none.1) tt
]

-- ---- the eastings of the stops so far, with the stop of one more number
module _ (p : Instance) where
  none_yet : All (IsEasting p) []
  none_yet = λ k d low. absurd (omega arith)

  one_is : (k : ℕ) (o : Option Stop) → stop_at p k ≡ o → All (IsEasting p) (option_to_list (option_map (λ s. record { east = east_of s; stop = k }) o))
  one_is k None is = none_yet
  one_is k (Some s) is = All-cons (IsEasting p) (record { east = east_of s; stop = k }) [] (ap (option_map east_of) is) none_yet

  one_has : (k : ℕ) (o : Option Stop) → IsSome o → HaveStop (option_to_list (option_map (λ s. record { east = east_of s; stop = k }) o)) k
  one_has k None some = absurd cc
  one_has k (Some s) some = (record { east = east_of s; stop = k }, refl, (0, omega arith, refl))

  pub one_below : (k : ℕ) (es : List Easting) → AreEastingsBelow p k es → AreEastingsBelow p (k + 1) (es ++ easting_at p k)
  one_below k es is = record {
    each = All-append (IsEasting p) es (easting_at p k) is.each (one_is k (stop_at p k) refl);
    all = λ n low known. elim (cases_order n k) [
      | inl e ↦ (
          let there = subst (HaveStop (easting_at p k)) (sym e) (one_has k (stop_at p k) (subst (IsKnownStop p) e known)) in
          (there.0, there.1, Contains-append_right es (easting_at p k) there.0 there.2))
      | inr other ↦ elim other [
        | inl less ↦ (let there = is.all n less known in (there.0, there.1, Contains-append_left es (easting_at p k) there.0 there.2))
        | inr more ↦ absurd (omega arith)
      ]
    ];
  }

  -- ---- the eastings in another order
  pub each_moved : (xs ys : List Easting) → IsPermutation xs ys → All (IsEasting p) xs → All (IsEasting p) ys
  each_moved xs ys moved all = All-permutation (IsEasting p) xs ys moved all

  pub have_moved : (xs ys : List Easting) → IsPermutation xs ys → (n : ℕ) → HaveStop xs n → HaveStop ys n
  have_moved xs ys moved n there = (there.0, there.1, Contains-permutation xs ys there.0 moved there.2)

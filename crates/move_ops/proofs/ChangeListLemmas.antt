-- The changes that turn one plan into another, route by route.
use Rattle.std.proofs.Common.{◌≡◌, ℕ, zero, suc, ◌-◌, ◌≤◌, Bool, true, false, List, [], ◌∷◌, All}
use Rattle.std.proofs.Common.{length, map, set, Some, slice_get, refl, sym, ap, subst, ◌∙◌, inl, inr, arith}
use Rattle.std.specs.List.{AllByRecursion, list_all}
use Rattle.std.specs.Option.{option_map}
use Rattle.std.proofs.lemmas.Option.{slice_get-map}
use Rattle.std.proofs.lemmas.Bool.{cases_Bool, and_parts, and_from}
use Rattle.std.proofs.lemmas.List.{length-map}
use Rattle.std.proofs.lemmas.List.Elements.{All-from_recursion}
use Rattle.move_ops.specs.Insertion.{route_of, with_route}
use Rattle.move_ops.specs.Changes.{with_routes, AreChanges}
use Rattle.move_ops.specs.declared.changes.Change.{Change}
use Rattle.move_ops.proofs.OccurrenceLemmas.{none_some, some_same}
use Rattle.move_ops.proofs.ReplacementLemmas.{at_vehicle, all_at}

-- ---- routes that are changed one by one
module _ (f : List ℕ → List ℕ) (old : List (List ℕ)) where
  pub of_map : (v : ℕ) → 1 ≤ v → v ≤ length old → route_of (map f old) v ≡ f (route_of old v)
  of_map zero from within = absurd (omega arith)
  of_map (suc k) from within =
      let e : suc k - 1 ≡ k = omega arith in
      some_same (route_of (map f old) (suc k)) (f (route_of old (suc k)))
      (sym (subst (λ j. slice_get (map f old) j ≡ Some (route_of (map f old) (suc k))) e
      (at_vehicle (map f old) (suc k) (omega arith) (let m = length-map old f in omega arith)))
      ∙ (slice_get-map f old k
      ∙ ap (option_map f)
      (subst (λ j. slice_get old j ≡ Some (route_of old (suc k))) e (at_vehicle old (suc k) (omega arith) within))))

-- ---- what the changes say about the plan
module _ (old new : List (List ℕ)) (cs : List Change) (is : AreChanges old new cs) (long : length new ≡ length old) where
  each_at : (P : List ℕ → Type 0) → All P new → (ds : List Change) → AllByRecursion (λ c. (1 ≤ c.vehicle) × (c.vehicle ≤ length old)) ds
      → AllByRecursion (λ c. c.route ≡ route_of new c.vehicle) ds → AllByRecursion (λ c. P c.route) ds
  each_at P all [] within there = tt
  each_at P all (c ∷ ds) within there = (
    (let low = within.0.0 in
        let high = within.0.1 in
        subst P (sym there.0) (all_at P new c.vehicle low (omega arith) all)),
    each_at P all ds within.1 there.1,
  )

  pub all_changes : (P : List ℕ → Type 0) → All P new → All (λ c. P c.route) cs
  all_changes P all = All-from_recursion (λ (c : Change). P c.route) cs (each_at P all cs (is.within) (is.there))

  pub all_within : All (λ c. (1 ≤ c.vehicle) × (c.vehicle ≤ length old)) cs
  all_within = All-from_recursion (λ (c : Change). (1 ≤ c.vehicle) × (c.vehicle ≤ length old)) cs (is.within)

-- ---- checks of only the changed routes
module _ (test : List ℕ → Bool) where
  set_passes : (routes : List (List ℕ)) (k : ℕ) (r : List ℕ) → list_all test routes ≡ true → test r ≡ true → list_all test (set routes k r) ≡ true
  set_passes [] k r all one = refl
  set_passes (x ∷ routes) zero r all one = and_from (test r) (list_all test routes) one (and_parts (test x) (list_all test routes) all).1
  set_passes (x ∷ routes) (suc k) r all one =
      let both = and_parts (test x) (list_all test routes) all in and_from (test x) (list_all test (set routes k r)) both.0 (set_passes routes k r both.1 one)

  changed_pass : (routes : List (List ℕ)) (cs : List Change) → list_all test routes ≡ true → list_all (λ c. test c.route) cs ≡ true
      → list_all test (with_routes routes cs) ≡ true
  changed_pass routes [] all each = all
  changed_pass routes (c ∷ cs) all each =
      let both = and_parts (test c.route) (list_all (λ d. test d.route) cs) each in
      changed_pass (with_route routes c.vehicle c.route) cs (set_passes routes (c.vehicle - 1) c.route all both.0) both.1

  test_at : (routes : List (List ℕ)) (k : ℕ) (r : List ℕ) → list_all test routes ≡ true → slice_get routes k ≡ Some r → test r ≡ true
  test_at [] k r all at = absurd (none_some r at)
  test_at (x ∷ routes) zero r all at = ap test (sym (some_same x r at)) ∙ (and_parts (test x) (list_all test routes) all).0
  test_at (x ∷ routes) (suc k) r all at = test_at routes k r (and_parts (test x) (list_all test routes) all).1 at

  each_passes : (old new : List (List ℕ)) (ds : List Change) → length new ≡ length old → list_all test new ≡ true
      → AllByRecursion (λ c. (1 ≤ c.vehicle) × (c.vehicle ≤ length old)) ds
      → AllByRecursion (λ c. c.route ≡ route_of new c.vehicle) ds → list_all (λ c. test c.route) ds ≡ true
  each_passes old new [] long all within there = refl
  each_passes old new (c ∷ ds) long all within there =
      let low = within.0.0 in
      and_from (test c.route) (list_all (λ d. test d.route) ds)
      (ap test there.0 ∙ test_at new (c.vehicle - 1) (route_of new c.vehicle) all (at_vehicle new c.vehicle low (omega arith)))
      (each_passes old new ds long all within.1 there.1)

  pub judged : (old new : List (List ℕ)) (cs : List Change) → AreChanges old new cs → length new ≡ length old → list_all test old ≡ true
      → list_all (λ c. test c.route) cs ≡ list_all test new
  judged old new cs is long good = elim (cases_Bool (list_all (λ (c : Change). test c.route) cs)) [
    | inl t ↦ t ∙ sym (ap (list_all test) (sym (is.plan)) ∙ changed_pass old cs good t)
    | inr f ↦ elim (cases_Bool (list_all test new)) [
      | inl t ↦ t2 t f
      | inr g ↦ f ∙ sym g
    ]
  ]
    where
      t2 : list_all test new ≡ true → list_all (λ (c : Change). test c.route) cs ≡ false → list_all (λ (c : Change). test c.route) cs ≡ list_all test new
      t2 t f = absurd (let h = each_passes old new cs long t (is.within) (is.there) in let k : true ≡ false = sym h ∙ f in cc)

-- All routes of a plan, joined.
use Rattle.std.proofs.Common.{◌≡◌, ℕ, ◌+◌, ◌≤◌, ◌<◌, true, false, eqb, List, [], ◌∷◌, ◌++◌, length, take, drop, get_or, refl, sym, ap, ◌∙◌, subst, arith, inl, inr}
use Rattle.std.specs.List.{All, AllByRecursion, IsDistinct, list_any, concat}
use Rattle.std.proofs.lemmas.Bool.{ne_eqb, eq-eqb, or_left, or_right}
use Rattle.std.proofs.lemmas.Bool.Decides.{eqb_tells}
use Rattle.std.proofs.lemmas.List.{append-nil, take_at, drop_at, take-append-drop, drop_more, take_more, length-append}
use Rattle.std.proofs.lemmas.List.Elements.{All-drop, All-from_get_or, All-take}
use Rattle.std.proofs.lemmas.List.Folds.{concat-append, list_any-append}
use Rattle.plan_types.specs.Instance.{Instance}
use Rattle.route_sched.specs.Route.{AreDistinctStops, IsKnownStop, IsPlan}
use Rattle.route_sched.proofs.CountLemmas.{distinct_right}

-- the joined routes are those before route k, route k, and those after it
concat_split : (routes : List (List ℕ)) (k : ℕ) → k < length routes
    → concat routes ≡ concat (take k routes) ++ (get_or routes k [] ++ concat (drop (k + 1) routes))
concat_split routes k h =
    ap concat (sym (take-append-drop k routes))
    ∙ (concat-append (take k routes) (drop k routes) ∙ ap (λ rs. concat (take k routes) ++ concat rs) (drop_more routes k [] h))

-- joining one more route appends its stops to the joined routes
pub concat_more : (routes : List (List ℕ)) (k : ℕ) → k < length routes → concat (take (k + 1) routes) ≡ concat (take k routes) ++ get_or routes k []
concat_more routes k h =
    ap concat (take_more routes k [] h)
    ∙ (concat-append (take k routes) (get_or routes k [] ∷ []) ∙ ap (λ r. concat (take k routes) ++ r) (append-nil (get_or routes k [])))

pub length-concat-take-le : (routes : List (List ℕ)) (k : ℕ) → length (concat (take k routes)) ≤ length (concat routes)
length-concat-take-le routes k =
    omega (
      arith,
      length-append (concat (take k routes)) (concat (drop k routes)),
      ap length (ap concat (sym (take-append-drop k routes)) ∙ concat-append (take k routes) (drop k routes)),
    )

distinct_left : (xs ys : List ℕ) → IsDistinct eqb (xs ++ ys) → IsDistinct eqb xs
unfolding IsDistinct
distinct_left [] ys distinct = tt
distinct_left (x ∷ xs) ys distinct = (apart xs distinct.0, distinct_left xs ys distinct.1)
  where
    apart : (zs : List ℕ) → AllByRecursion (λ y. eqb x y ≡ false) (zs ++ ys) → AllByRecursion (λ y. eqb x y ≡ false) zs
    apart [] all = tt
    apart (z ∷ zs) all = (all.0, apart zs all.1)

-- a part of a list of distinct current stops has distinct current stops
live_part : (p : Instance) (xs ys zs : List ℕ) → AreDistinctStops p (xs ++ (ys ++ zs)) → AreDistinctStops p ys
live_part p xs ys zs once = record {
  live = subst (λ ns. All (IsKnownStop p) ns) (take_at ys zs (length ys) refl)
      (All-take (IsKnownStop p) (length ys) (ys ++ zs)
      (subst (λ ns. All (IsKnownStop p) ns) (drop_at xs (ys ++ zs) (length xs) refl) (All-drop (IsKnownStop p) (length xs) (xs ++ (ys ++ zs)) once.live)));
  distinct = distinct_left ys zs (distinct_right xs (ys ++ zs) once.distinct);
}

-- a route of a plan has distinct current stops
pub route_of_plan : (p : Instance) (routes : List (List ℕ)) (k : ℕ) → k < length routes → IsPlan p routes → AreDistinctStops p (get_or routes k [])
route_of_plan p routes k h plan =
    live_part p (concat (take k routes)) (get_or routes k []) (concat (drop (k + 1) routes)) (subst (λ ns. AreDistinctStops p ns) (concat_split routes k h) plan)

pub routes_of_plan : (p : Instance) (routes : List (List ℕ)) → IsPlan p routes → All (AreDistinctStops p) routes
routes_of_plan p routes plan = All-from_get_or (AreDistinctStops p) routes [] (λ k h. route_of_plan p routes k h plan)

-- ---- stops by number
-- a stop of a route is a stop of the joined routes
pub part_of_routes : (routes : List (List ℕ)) (k n : ℕ) → k < length routes → list_any (eqb n) (get_or routes k []) ≡ true
    → list_any (eqb n) (concat routes) ≡ true
part_of_routes routes k n h there =
    rw (concat_split routes k h, list_any-append (eqb n) (concat (take k routes)) _, list_any-append (eqb n) (get_or routes k []) _)
    (or_right _ _ (or_left _ _ there))

flipped : (n y : ℕ) → eqb n y ≡ eqb y n
flipped n y =
    elim (eqb_tells y n) [
      | inl t ↦ eq-eqb n y (sym t.1) ∙ sym t.0
      | inr t ↦ ne_eqb n y (λ e. t.1 (sym e)) ∙ sym t.0
    ]

any_flipped : (n : ℕ) (xs : List ℕ) → list_any (eqb n) xs ≡ list_any (λ y. eqb y n) xs
any_flipped n [] = refl
any_flipped n (x ∷ xs) = rw (flipped n x, any_flipped n xs) refl

-- the joined routes have a stop exactly if one of the routes has it
pub has_stop_is : (routes : List (List ℕ)) (n : ℕ) → list_any (eqb n) (concat routes) ≡ list_any (λ route. list_any (λ y. eqb y n) route) routes
has_stop_is [] n = refl
has_stop_is (r ∷ routes) n = list_any-append (eqb n) r (concat routes) ∙ rw (any_flipped n r, has_stop_is routes n) refl

-- The first position of a stop.
use Rattle.std.proofs.Common.{◌≡◌, ℕ, ◌+◌, ◌<◌, ◌≤◌, ◌⊎◌, Bool, true, false, cond, List, [], ◌∷◌, Option, Some, None, slice_get, refl, sym, ap, subst, ◌∙◌, inl, inr, arith, eqb}
use Rattle.std.specs.Option.{option_map, option_or}
use Rattle.std.proofs.lemmas.Bool.{eqb-true, eq-eqb, cases_lt}
use Rattle.std.proofs.lemmas.Option.{same_Some}
use Rattle.plan_types.proofs.LookupLemmas.{option_or-map}
use Rattle.plan_audit.specs.Rules.{IsEarlier}
use Rattle.plan_audit.specs.FirstFault.{place_of, position_in, position_from, position_of}
use Rattle.plan_audit.specs.declared.first_positions.StopPosition.{StopPosition}
use Rattle.plan_audit.proofs.FirstLemmas.{none_some, first_answer, IsFirst, AnswersNothing, first_found, first_nothing, map-map, map-none}

-- the place i, if its stop m is stop n
place_test : ℕ → ℕ → ℕ → Option ℕ
place_test n i m = cond (eqb m n) (Some i) None

seat_at : ℕ × ℕ → StopPosition
seat_at a = record { route = a.0; place = a.1 }

place_of-is : (n k : ℕ) (ms : List ℕ) → place_of n k ms ≡ option_map (λ a. a.1) (first_answer (place_test n) k ms)
unfolding first_answer place_test
place_of-is n k [] = refl
place_of-is n k (m ∷ ms) = by (eqb m n) (place_of-is n (k + 1) ms)
  where
    by : (b : Bool) → place_of n (k + 1) ms ≡ option_map (λ a. a.1) (first_answer (place_test n) (k + 1) ms)
        → cond b (Some k) (place_of n (k + 1) ms)
        ≡ option_map (λ a. a.1) (option_or (option_map (λ y. (k, y)) (cond b (Some k) None)) (first_answer (place_test n) (k + 1) ms))
    by true rest = refl
    by false rest = rest

position_from-is : (n k : ℕ) (rs : List (List ℕ)) → position_from n k rs ≡ option_map seat_at (first_answer (λ _ r. place_of n 0 r) k rs)
unfolding first_answer seat_at
position_from-is n k [] = refl
position_from-is n k (r ∷ rs) =
    ap (option_or (position_in n k r)) (position_from-is n (k + 1) rs)
    ∙ ap (λ (o : Option StopPosition). option_or o (option_map seat_at (first_answer (λ _ r. place_of n 0 r) (k + 1) rs)))
    (sym (map-map (λ i. (k, i)) seat_at (place_of n 0 r)))
    ∙ option_or-map seat_at (option_map (λ i. (k, i)) (place_of n 0 r)) (first_answer (λ _ r. place_of n 0 r) (k + 1) rs)

-- stop n is at place i of route r; both count from 0
abbrev pub Sits : List (List ℕ) → ℕ → ℕ → ℕ → Type 0
Sits routes r i n = (route : List ℕ) × (slice_get routes r ≡ Some route) × (slice_get route i ≡ Some n)

-- two positions of which neither is earlier are equal
pub neither_before : (q j r i : ℕ) → (IsEarlier q j r i → ⊥) → (IsEarlier r i q j → ⊥) → (q ≡ r) × (j ≡ i)
neither_before q j r i before following = elim (cases_lt q r) [
  | inl lt ↦ absurd (before (inl lt))
  | inr ge ↦ elim (cases_lt r q) [
    | inl lt ↦ absurd (following (inl lt))
    | inr le ↦ (let same : q ≡ r = omega arith in elim (cases_lt j i) [
      | inl lt ↦ absurd (before (inr (same, lt)))
      | inr ge' ↦ elim (cases_lt i j) [
        | inl lt ↦ absurd (following (inr (sym same, lt)))
        | inr le' ↦ (same, omega arith)
      ]
    ])
  ]
]

-- i is the first place of stop n
pub record IsPlace (n : ℕ) (ms : List ℕ) (i : ℕ) : Type 0 where
  pub stands : slice_get ms i ≡ Some n
  pub least : (j : ℕ) → slice_get ms j ≡ Some n → i ≤ j

some_place : (n i m s : ℕ) → cond (eqb m n) (Some i) None ≡ Some s → (m ≡ n) × (s ≡ i)
some_place n i m s h = by (eqb m n) refl
  where
    by : (b : Bool) → eqb m n ≡ b → (m ≡ n) × (s ≡ i)
    by true e = (eqb-true m n e, (let g : cond (eqb m n) (Some i) None ≡ Some s = h in sym (same_Some i s (rw e at g))))
    by false e = absurd (none_some s (let g : cond (eqb m n) (Some i) None ≡ Some s = h in rw e at g))

pub place_of-found : (n : ℕ) (ms : List ℕ) (i : ℕ) → place_of n 0 ms ≡ Some i → IsPlace n ms i
unfolding place_test
place_of-found n ms i is = by (first_answer (place_test n) 0 ms) refl
  where
    by : (o : Option (ℕ × ℕ)) → first_answer (place_test n) 0 ms ≡ o → IsPlace n ms i
    by None e = absurd (none_some i (sym (place_of-is n 0 ms ∙ ap (option_map (λ a. a.1)) e) ∙ is))
    by (Some a) e =
        let first = first_found (place_test n) 0 ms a e in
        let reported = some_place n a.0 (first.item) a.1 (first.reported) in
        let same : a.1 ≡ i = same_Some _ _ (sym (place_of-is n 0 ms ∙ ap (option_map (λ a. a.1)) e) ∙ is) in
        let place = first.place in
        let index : first.index ≡ i = omega arith in
        record {
          stands = subst (λ j. slice_get ms j ≡ Some n) index (first.stands ∙ ap Some reported.0);
          least = λ j at. let le = first.least j n j at (rw (eq-eqb n n refl) (let z : 0 + j ≡ j = omega arith in ap Some z)) in omega arith;
        }

pub place_of-none : (n : ℕ) (ms : List ℕ) → place_of n 0 ms ≡ None → (j : ℕ) → slice_get ms j ≡ Some n → ⊥
unfolding place_test AnswersNothing
place_of-none n ms is j at =
    let nothing = first_nothing (place_test n) 0 ms (map-none (λ a. a.1) _ (sym (place_of-is n 0 ms) ∙ is)) j n at in
    let reported : cond (eqb n n) (Some (0 + j)) None ≡ None = nothing in
    none_some (0 + j) (sym (rw (eq-eqb n n refl) at reported))

-- s is the first position of stop n
pub record IsSeat (routes : List (List ℕ)) (n : ℕ) (s : StopPosition) : Type 0 where
  pub sits : Sits routes s.route s.place n
  pub least : (r i : ℕ) → Sits routes r i n → (s.route < r) ⊎ ((s.route ≡ r) × (s.place ≤ i))

pub position_of-found : (routes : List (List ℕ)) (n : ℕ) (s : StopPosition) → position_of routes n ≡ Some s → IsSeat routes n s
unfolding seat_at
position_of-found routes n s is = by (first_answer (λ _ r. place_of n 0 r) 0 routes) refl
  where
    by : (o : Option (ℕ × ℕ)) → first_answer (λ _ r. place_of n 0 r) 0 routes ≡ o → IsSeat routes n s
    by None e = absurd (none_some s (sym (position_from-is n 0 routes ∙ ap (option_map seat_at) e) ∙ is))
    by (Some a) e =
        let first = first_found (λ _ r. place_of n 0 r) 0 routes a e in
        let same : seat_at a ≡ s = same_Some _ _ (sym (position_from-is n 0 routes ∙ ap (option_map seat_at) e) ∙ is) in
        let place = place_of-found n (first.item) a.1 (first.reported) in
        let at = first.place in
        let index : first.index ≡ a.0 = omega arith in
        subst (λ (s : StopPosition). IsSeat routes n s) same (record {
          sits = (first.item, subst (λ r. slice_get routes r ≡ Some (first.item)) index (first.stands), place.stands);
          least = λ r i t. least a first index r i t (place_of n 0 t.0) refl;
        })
      where
        least : (a : ℕ × ℕ) (first : IsFirst (λ _ r. place_of n 0 r) 0 routes a) → first.index ≡ a.0 → (r i : ℕ) (t : Sits routes r i n) (o : Option ℕ)
            → place_of n 0 t.0 ≡ o → (a.0 < r) ⊎ ((a.0 ≡ r) × (a.1 ≤ i))
        least a first index r i t None e = absurd (place_of-none n t.0 e i t.2)
        least a first index r i t (Some j) e =
            let le = first.least r t.0 j t.1 e in
            elim (cases_lt a.0 r) [
              | inl lt ↦ inl lt
              | inr ge ↦ (
                  let here : a.0 ≡ r = omega arith in
                  let same : first.item ≡ t.0 = same_Some _ _ (sym (subst (λ q. slice_get routes q ≡ Some (first.item)) (index ∙ here) (first.stands)) ∙ t.1) in
                  let known = place_of-found n (first.item) a.1 (first.reported) in
                  inr (here, known.least i (subst (λ (q : List ℕ). slice_get q i ≡ Some n) (sym same) t.2)))
            ]

pub position_of-none : (routes : List (List ℕ)) (n : ℕ) → position_of routes n ≡ None → (r i : ℕ) → Sits routes r i n → ⊥
unfolding AnswersNothing
position_of-none routes n is r i t =
    place_of-none n t.0 (first_nothing (λ _ r. place_of n 0 r) 0 routes (map-none seat_at _ (sym (position_from-is n 0 routes) ∙ is)) r t.0 t.1) i t.2

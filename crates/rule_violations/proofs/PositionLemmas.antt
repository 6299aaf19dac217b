-- The first position of a stop, and whether it has one.
use Rattle.std.proofs.Common.{◌≡◌, ℕ, zero, suc, ◌+◌, ◌<◌, ◌≤◌, ◌⊎◌, Bool, true, false, cond, List, [], ◌∷◌, Option, Some, None, slice_get, refl, sym, ap, subst, inl, inr, arith, eqb}
use Rattle.std.specs.Option.{option_map, option_or}
use Rattle.std.proofs.lemmas.Bool.Decides.{eqb_tells}
use Rattle.std.proofs.lemmas.Option.{same_Some}
use Rattle.route_sched.specs.Cost.{has_stop}
use Rattle.plan_audit.specs.Rules.{IsVisited}
use Rattle.plan_audit.specs.FirstFault.{place_of}
use Rattle.plan_audit.proofs.FirstLemmas.{none_some}
use Rattle.plan_audit.proofs.PositionLemmas.{Sits}
use Rattle.plan_audit.proofs.ServedLemmas.{a_seat}
use Rattle.rule_violations.specs.Positions.{first_position, position_from}
use Rattle.rule_violations.specs.declared.positions.PrintedPosition.{PrintedPosition}

-- i is the first place of stop n, with places counted from k
record IsPlace (n k i : ℕ) (ms : List ℕ) : Type 0 where
  pub index : ℕ
  pub is : i ≡ k + index
  pub item_at_index : slice_get ms index ≡ Some n
  pub least : (j : ℕ) → slice_get ms j ≡ Some n → index ≤ j

place_found : (n k i : ℕ) (ms : List ℕ) → place_of n k ms ≡ Some i → IsPlace n k i ms
place_found n k i [] is = absurd (none_some i is)
place_found n k i (m ∷ ms) is = elim (eqb_tells m n) [
  | inl t ↦ (
      let same : k ≡ i = same_Some k i (let h : cond (eqb m n) (Some k) (place_of n (k + 1) ms) ≡ Some i = is in rw t.0 at h) in
      record { index = 0; is = omega arith; item_at_index = ap Some t.1; least = λ j at. omega arith })
  | inr t ↦ (
      let later = place_found n (k + 1) i ms (let h : cond (eqb m n) (Some k) (place_of n (k + 1) ms) ≡ Some i = is in rw t.0 at h) in
      record {
        index = suc (later.index);
        is = (let e = later.is in omega arith);
        item_at_index = later.item_at_index;
        least = λ j at. later_least m n ms (later.index) t.1 (later.least) j at;
      })
]
  where
    later_least : (m n : ℕ) (ms : List ℕ) (index : ℕ) → (m ≡ n → ⊥) → ((j : ℕ) → slice_get ms j ≡ Some n → index ≤ j) → (j : ℕ) → slice_get (m ∷ ms) j ≡ Some n
        → suc index ≤ j
    later_least m n ms index ne least zero at = absurd (ne (same_Some m n at))
    later_least m n ms index ne least (suc j) at = let le = least j at in omega arith

no_place : (n k : ℕ) (ms : List ℕ) → place_of n k ms ≡ None → (j : ℕ) → slice_get ms j ≡ Some n → ⊥
no_place n k [] is j at = none_some n at
no_place n k (m ∷ ms) is j at = elim (eqb_tells m n) [
  | inl t ↦ none_some k (sym (let h : cond (eqb m n) (Some k) (place_of n (k + 1) ms) ≡ None = is in rw t.0 at h))
  | inr t ↦ further m n ms t.1 (λ j at. no_place n (k + 1) ms (let h : cond (eqb m n) (Some k) (place_of n (k + 1) ms) ≡ None = is in rw t.0 at h) j at) j at
]
  where
    further : (m n : ℕ) (ms : List ℕ) → (m ≡ n → ⊥) → ((j : ℕ) → slice_get ms j ≡ Some n → ⊥) → (j : ℕ) → slice_get (m ∷ ms) j ≡ Some n → ⊥
    further m n ms ne rest zero at = ne (same_Some m n at)
    further m n ms ne rest (suc j) at = rest j at

-- s is the position at place j of route d, both counted from 0, and no earlier position has the stop; the
-- first of these routes has number k
pub record IsFirstPosition (n k : ℕ) (routes : List (List ℕ)) (s : PrintedPosition) : Type 0 where
  pub at_route : ℕ
  pub at_place : ℕ
  pub route_is : s.route ≡ k + at_route
  pub place_is : s.place ≡ 1 + at_place
  pub at_index : Sits routes at_route at_place n
  pub least : (r i : ℕ) → Sits routes r i n → (at_route < r) ⊎ ((at_route ≡ r) × (at_place ≤ i))

position_in_route : ℕ → Option ℕ → Option PrintedPosition
position_in_route k o = option_map (λ i. record { route = k; place = i }) o

position_found : (n k : ℕ) (routes : List (List ℕ)) (s : PrintedPosition) → position_from n k routes ≡ Some s → IsFirstPosition n k routes s
unfolding position_in_route
position_found n k [] s is = absurd (none_some s is)
position_found n k (route ∷ routes) s is = by (place_of n 1 route) refl (λ h. position_found n (k + 1) routes s h)
  where
    by : (o : Option ℕ) → place_of n 1 route ≡ o → (position_from n (k + 1) routes ≡ Some s → IsFirstPosition n (k + 1) routes s) → IsFirstPosition n k (route ∷ routes) s
    by (Some i) e rest =
        let reported : option_or (position_in_route k (Some i)) (position_from n (k + 1) routes) ≡ Some s =
        (let h : option_or (position_in_route k (place_of n 1 route)) (position_from n (k + 1) routes) ≡ Some s = is in rw e at h) in
        let same : ◌≡◌ {A = PrintedPosition} (record { route = k; place = i }) s = same_Some _ _ reported in
        let here = place_found n 1 i route e in
        record {
          at_route = 0;
          at_place = here.index;
          route_is = (let r = ap (λ (s : PrintedPosition). s.route) same in omega arith);
          place_is = (let r = ap (λ (s : PrintedPosition). s.place) same in let at = here.is in omega arith);
          at_index = (route, refl, here.item_at_index);
          least = λ r j t. first (here.index) (here.least) r j t;
        }
      where
        first : (index : ℕ) → ((j : ℕ) → slice_get route j ≡ Some n → index ≤ j) → (r j : ℕ) → Sits (route ∷ routes) r j n → (0 < r) ⊎ ((0 ≡ r) × (index ≤ j))
        first index least zero j t = inr (refl, least j (subst (λ (l : List ℕ). slice_get l j ≡ Some n) (sym (same_Some route t.0 t.1)) t.2))
        first index least (suc r) j t = inl (omega arith)
    by None e rest =
        let later = rest (let h : option_or (position_in_route k (place_of n 1 route)) (position_from n (k + 1) routes) ≡ Some s = is in rw e at h) in
        record {
          at_route = suc (later.at_route);
          at_place = later.at_place;
          route_is = (let r = later.route_is in omega arith);
          place_is = later.place_is;
          at_index = later.at_index;
          least = λ r j t. following (later.at_route) (later.at_place) (later.least) r j t;
        }
      where
        following : (d index : ℕ) → ((r j : ℕ) → Sits routes r j n → (d < r) ⊎ ((d ≡ r) × (index ≤ j))) → (r j : ℕ) → Sits (route ∷ routes) r j n
            → (suc d < r) ⊎ ((suc d ≡ r) × (index ≤ j))
        following d index least zero j t = absurd (no_place n 1 route e j (subst (λ (l : List ℕ). slice_get l j ≡ Some n) (sym (same_Some route t.0 t.1)) t.2))
        following d index least (suc r) j t = elim (least r j t) [
          | inl lt ↦ inl (omega arith)
          | inr le ↦ (let same = le.0 in inr (omega arith, le.1))
        ]

no_seat : (n k : ℕ) (routes : List (List ℕ)) → position_from n k routes ≡ None → (r i : ℕ) → Sits routes r i n → ⊥
unfolding position_in_route
no_seat n k [] is r i t = absurd (none_some (t.0) (t.1))
no_seat n k (route ∷ routes) is r i t = by (place_of n 1 route) refl (λ h r i t. no_seat n (k + 1) routes h r i t) r i t
  where
    by : (o : Option ℕ) → place_of n 1 route ≡ o → (position_from n (k + 1) routes ≡ None → (r i : ℕ) → Sits routes r i n → ⊥) → (r i : ℕ)
        → Sits (route ∷ routes) r i n → ⊥
    by (Some j) e rest r i t =
        none_some _ (sym (let h : option_or (position_in_route k (place_of n 1 route)) (position_from n (k + 1) routes) ≡ None = is in rw e at h))
    by None e rest zero i t = no_place n 1 route e i (subst (λ (l : List ℕ). slice_get l i ≡ Some n) (sym (same_Some route t.0 t.1)) t.2)
    by None e rest (suc r) i t = rest (let h : option_or (position_in_route k (place_of n 1 route)) (position_from n (k + 1) routes) ≡ None = is in rw e at h) r i t

pub first_found : (routes : List (List ℕ)) (n : ℕ) (s : PrintedPosition) → first_position routes n ≡ Some s → IsFirstPosition n 1 routes s
first_found routes n s is = position_found n 1 routes s is

pub first_none : (routes : List (List ℕ)) (n : ℕ) → first_position routes n ≡ None → (r i : ℕ) → Sits routes r i n → ⊥
first_none routes n is r i t = no_seat n 1 routes is r i t

-- a stop at no place is in no route
pub has_none : (routes : List (List ℕ)) (n : ℕ) → (IsVisited routes n → ⊥) → has_stop routes n ≡ false
has_none routes n nowhere = by (has_stop routes n) refl
  where
    by : (b : Bool) → has_stop routes n ≡ b → has_stop routes n ≡ false
    by true e = absurd (nowhere (a_seat routes n e))
    by false e = e

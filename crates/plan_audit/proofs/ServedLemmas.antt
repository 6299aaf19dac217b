-- Requests that no route serves.
use Rattle.std.proofs.Common.{◌≡◌, ℕ, suc, ◌+◌, ◌<◌, ◌≤◌, Bool, true, false, cond, ◌||◌, List, [], ◌∷◌, Option, Some, None, is_some, refl, sym, ap, subst, ◌∙◌, inl, inr, arith, nat_eq, eqb}
use Rattle.std.specs.List.{AllByRecursion, list_any, concat}
use Rattle.std.specs.List.Sorted.{IsStrictlySortedBy}
use Rattle.std.specs.Map.{lookup, keys_of}
use Rattle.std.specs.Option.{option_map, option_or}
use Rattle.std.specs.Ordering.{nat_cmp}
use Rattle.std.specs.declared.cmp.Ordering.TheVariants.{Less, Equal, Greater}
use Rattle.std.proofs.lemmas.Bool.{eq-eqb, ne_eqb, cases_lt, le-ltb, or_parts, or_cases}
use Rattle.std.proofs.lemmas.Bool.Decides.{eqb_tells}
use Rattle.std.proofs.lemmas.List.Folds.{list_any-append}
use Rattle.std.proofs.lemmas.Option.{same_Some}
use Rattle.plan_types.specs.Request.{stops_of}
use Rattle.plan_types.specs.declared.requests.Request.{Request}
use Rattle.plan_types.specs.declared.requests.Request.TheVariants.{Single, Pair}
use Rattle.plan_audit.specs.Rules.{IsVisited}
use Rattle.route_sched.specs.Cost.{has_stop, is_planned}
use Rattle.plan_audit.specs.FirstFault.{place_of, position_in, position_from, position_of, first_unserved}
use Rattle.plan_audit.specs.declared.first_positions.StopPosition.{StopPosition}
use Rattle.plan_audit.proofs.FirstLemmas.{none_some}
use Rattle.plan_audit.proofs.PositionLemmas.{position_of-found}
use Rattle.plan_audit.proofs.RuleLemmas.{nowhere-first_position}

-- no stop of the request is in a route
abbrev pub IsNowhere : List (List ℕ) → Request → Type 0
IsNowhere routes r = AllByRecursion (λ s. IsVisited routes s.number → ⊥) (stops_of r)

-- a stop is in a list exactly if it has a first place in it
place-has : (n k : ℕ) (ms : List ℕ) → is_some (place_of n k ms) ≡ list_any (nat_eq n) ms
place-has n k [] = refl
place-has n k (m ∷ ms) = elim (eqb_tells m n) [
  | inl t ↦ rw (t.0, eq-eqb n m (sym t.1)) refl
  | inr t ↦ rw (t.0, ne_eqb n m (λ e. t.1 (sym e))) (place-has n (k + 1) ms)
]

position_in-has : (n k : ℕ) (route : List ℕ) → is_some (position_in n k route) ≡ list_any (nat_eq n) route
position_in-has n k route = mapped (place_of n 0 route) ∙ place-has n 0 route
  where
    first_position : ℕ → StopPosition
    first_position i = record { route = k; place = i }

    mapped : (o : Option ℕ) → is_some (option_map first_position o) ≡ is_some o
    mapped None = refl
    mapped (Some i) = refl

is_some-or : (o p : Option StopPosition) → is_some (option_or o p) ≡ (is_some o || is_some p)
is_some-or None p = refl
is_some-or (Some s) p = refl

position_from-has : (n k : ℕ) (routes : List (List ℕ)) → is_some (position_from n k routes) ≡ list_any (nat_eq n) (concat routes)
position_from-has n k [] = refl
position_from-has n k (route ∷ routes) =
    is_some-or (position_in n k route) (position_from n (k + 1) routes)
    ∙ ap (λ b. b || is_some (position_from n (k + 1) routes)) (position_in-has n k route)
    ∙ ap (λ b. list_any (nat_eq n) route || b) (position_from-has n (k + 1) routes)
    ∙ sym (list_any-append (nat_eq n) route (concat routes))

pub first_position-has : (routes : List (List ℕ)) (n : ℕ) → is_some (position_of routes n) ≡ has_stop routes n
first_position-has routes n = position_from-has n 0 routes

pub no_seat : (routes : List (List ℕ)) (n : ℕ) → has_stop routes n ≡ false → IsVisited routes n → ⊥
no_seat routes n none = by (position_of routes n) refl
  where
    by : (o : Option StopPosition) → position_of routes n ≡ o → IsVisited routes n → ⊥
    by None e = nowhere-first_position routes n e
    by (Some u) e = absurd (let h : is_some (position_of routes n) ≡ false = first_position-has routes n ∙ none in let g : true ≡ false = (rw e at h) in cc)

pub a_seat : (routes : List (List ℕ)) (n : ℕ) → has_stop routes n ≡ true → IsVisited routes n
a_seat routes n some = by (position_of routes n) refl
  where
    by : (o : Option StopPosition) → position_of routes n ≡ o → IsVisited routes n
    by None e = absurd (let h : is_some (position_of routes n) ≡ true = first_position-has routes n ∙ some in let g : false ≡ true = (rw e at h) in cc)
    by (Some u) e = (suc u.route, suc u.place, (position_of-found routes n u e).sits)

pub not_served : (routes : List (List ℕ)) (r : Request) → is_planned routes r ≡ false → IsNowhere routes r
not_served routes (Single s) e = (no_seat routes s.number (or_parts (has_stop routes s.number) false e).0, tt)
not_served routes (Pair a b) e =
    let both = or_parts (has_stop routes a.number) (has_stop routes b.number || false) e in
    (no_seat routes a.number both.0, (no_seat routes b.number (or_parts (has_stop routes b.number) false both.1).0, tt))

served_somewhere : (routes : List (List ℕ)) (r : Request) → is_planned routes r ≡ true → IsNowhere routes r → ⊥
served_somewhere routes (Single s) e nowhere = elim (or_cases (has_stop routes s.number) false e) [
  | inl t ↦ nowhere.0 (a_seat routes s.number t)
  | inr t ↦ (let g : false ≡ true = t in absurd (cc))
]
served_somewhere routes (Pair a b) e nowhere = elim (or_cases (has_stop routes a.number) (has_stop routes b.number || false) e) [
  | inl t ↦ nowhere.0 (a_seat routes a.number t)
  | inr t ↦ elim (or_cases (has_stop routes b.number) false t) [
    | inl u ↦ nowhere.1.0 (a_seat routes b.number u)
    | inr u ↦ (let g : false ≡ true = u in absurd (cc))
  ]
]

-- a property of all keys holds for a key that is found
found-key : (P : ℕ → Type 0) (es : List (ℕ × Request)) (m : ℕ) (r : Request) → AllByRecursion P (keys_of es) → lookup (nat_eq m) es ≡ Some r → P m
found-key P [] m r all is = absurd (none_some r is)
found-key P (e ∷ es) m r all is = elim (eqb_tells m e.0) [
  | inl t ↦ subst P (sym t.1) all.0
  | inr t ↦ found-key P es m r all.1 (let h : lookup (nat_eq m) (e ∷ es) ≡ Some r = is in rw t.0 at h)
]

pub below_less : (a b : ℕ) → nat_cmp a b ≡ Less → a < b
below_less a b h = elim (cases_lt a b) [
  | inl lt ↦ lt
  | inr ge ↦ (
      let g : nat_cmp a b ≡ Less = h in
      let z : cond (eqb a b) Equal Greater ≡ Less = (rw (le-ltb a b ge) at g) in
      elim (eqb_tells a b) [
        | inl t ↦ absurd (let y : Equal ≡ Less = (rw (t.0) at z) in cc)
        | inr t ↦ absurd (let y : Greater ≡ Less = (rw (t.0) at z) in cc)
      ])
]

-- n is the first request that is not served
pub record IsFirstUnserved (routes : List (List ℕ)) (es : List (ℕ × Request)) (n : ℕ) : Type 0 where
  pub request : Request
  pub found : lookup (nat_eq n) es ≡ Some request
  pub nowhere : IsNowhere routes request
  pub least : (m : ℕ) (r : Request) → lookup (nat_eq m) es ≡ Some r → IsNowhere routes r → n ≤ m

pub unserved_found : (routes : List (List ℕ)) (es : List (ℕ × Request)) (n : ℕ) → IsStrictlySortedBy nat_cmp (keys_of es) → first_unserved routes es ≡ Some n
    → IsFirstUnserved routes es n
unfolding IsStrictlySortedBy
unserved_found routes [] n up is = absurd (none_some n is)
unserved_found routes (e ∷ es) n up is = by (is_planned routes e.1) refl (λ h. unserved_found routes es n up.1 h)
  where
    by : (b : Bool) → is_planned routes e.1 ≡ b → (first_unserved routes es ≡ Some n → IsFirstUnserved routes es n) → IsFirstUnserved routes (e ∷ es) n
    by false b rest =
        let same : e.0 ≡ n =
        same_Some _ _ (let h : option_or (cond (is_planned routes e.1) None (Some e.0)) (first_unserved routes es) ≡ Some n = is in rw b at h) in
        record {
          request = e.1;
          found = rw (eq-eqb n e.0 (sym same)) refl;
          nowhere = not_served routes e.1 b;
          least = λ m r at nowhere. elim (eqb_tells m e.0) [
            | inl t ↦ (let a = t.1 in omega arith)
            | inr t ↦
                (let lt = below_less e.0 m
                (found-key (λ y. nat_cmp e.0 y ≡ Less) es m r up.0 (let h : lookup (nat_eq m) (e ∷ es) ≡ Some r = at in rw t.0 at h)) in omega arith)
          ];
        }
    by true b rest =
        let later = rest (let h : option_or (cond (is_planned routes e.1) None (Some e.0)) (first_unserved routes es) ≡ Some n = is in rw b at h) in
        let lt = below_less e.0 n (found-key (λ y. nat_cmp e.0 y ≡ Less) es n (later.request) up.0 (later.found)) in
        let apart : nat_eq n e.0 ≡ false = elim (eqb_tells n e.0) [ inl t ↦ (let a = t.1 in absurd (omega arith)) | inr t ↦ t.0 ] in
        record {
          request = later.request;
          found = rw apart (later.found);
          nowhere = later.nowhere;
          least = λ m r at nowhere. elim (eqb_tells m e.0) [
            | inl t ↦ absurd
                (served_somewhere routes e.1 b
                (subst (IsNowhere routes) (same_Some r e.1 (sym (let h : lookup (nat_eq m) (e ∷ es) ≡ Some r = at in rw t.0 at h))) nowhere))
            | inr t ↦ later.least m r (let h : lookup (nat_eq m) (e ∷ es) ≡ Some r = at in rw t.0 at h) nowhere
          ];
        }

pub unserved_nothing : (routes : List (List ℕ)) (es : List (ℕ × Request)) → first_unserved routes es ≡ None → (m : ℕ) (r : Request)
    → lookup (nat_eq m) es ≡ Some r → IsNowhere routes r → ⊥
unserved_nothing routes [] is m r at nowhere = none_some r at
unserved_nothing routes (e ∷ es) is m r at nowhere = by (is_planned routes e.1) refl (λ h g. unserved_nothing routes es h m r g nowhere)
  where
    by : (b : Bool) → is_planned routes e.1 ≡ b → (first_unserved routes es ≡ None → lookup (nat_eq m) es ≡ Some r → ⊥) → ⊥
    by false b rest = none_some e.0 (sym (let h : option_or (cond (is_planned routes e.1) None (Some e.0)) (first_unserved routes es) ≡ None = is in rw b at h))
    by true b rest = elim (eqb_tells m e.0) [
      | inl t ↦ served_somewhere routes e.1 b
          (subst (IsNowhere routes) (same_Some r e.1 (sym (let h : lookup (nat_eq m) (e ∷ es) ≡ Some r = at in rw t.0 at h))) nowhere)
      | inr t ↦ rest (let h : option_or (cond (is_planned routes e.1) None (Some e.0)) (first_unserved routes es) ≡ None = is in rw b at h)
          (let h : lookup (nat_eq m) (e ∷ es) ≡ Some r = at in rw t.0 at h)
    ]

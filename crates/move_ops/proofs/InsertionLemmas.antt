-- A request inserted into a route of a plan that passes.
use Rattle.std.proofs.Common.{◌≡◌, ℕ, zero, suc, ◌+◌, ◌-◌, ◌<◌, ◌≤◌, ◌||◌, Bool, true, false, cond, eqb, ltb, leb, ◌&&◌, List}
use Rattle.std.proofs.Common.{[], ◌∷◌, ◌++◌, length, take, drop, Some, None, IsSome, slice_get, refl, sym, subst, ◌∙◌, inl, inr, arith, rules, nat_eq}
use Rattle.std.specs.List.{AllByRecursion, concat}
use Rattle.std.specs.Map.{lookup}
use Rattle.std.proofs.lemmas.Bool.{cases_lt, cases_Bool, and_parts, eq-eqb, eqb-true, ne_eqb, ltb-true, leb-true, or_parts}
use Rattle.std.proofs.lemmas.Bool.Decides.{eqb_tells}
use Rattle.std.proofs.lemmas.List.{length-set}
use Rattle.std.proofs.lemmas.List.Elements.{All-set}
use Rattle.plan_types.specs.Instance.{Instance, IsInstance}
use Rattle.plan_types.specs.Laws.{NamedRequestsAreFound}
use Rattle.plan_types.specs.Request.{IsRequest, stop_in}
use Rattle.plan_types.specs.declared.requests.Request.{Request}
use Rattle.plan_types.specs.declared.requests.Request.TheVariants.{Single, Pair}
use Rattle.route_sched.specs.Route.{IsKnownStop, AreDistinctStops, IsPlan}
use Rattle.route_sched.specs.Cost.{has_stop, is_planned}
use Rattle.plan_audit.specs.Alone.{IsFeasibleAlone}
use Rattle.plan_audit.specs.Locality.{PassingIsLocal, FeasibleAloneDecidesFeasibility}
use Rattle.plan_audit.specs.Passes.{feasible_alone, passes}
use Rattle.plan_audit.specs.Rules.{item_at}
use Rattle.slack_tables.proofs.InsertLemmas.{request-valid, valid-among}
use Rattle.move_ops.specs.Insertion.{Insertion, with_stop_at, inserted, route_of, with_route, with_request_at, are_places, is_place_of, inserted_at}
use Rattle.move_ops.proofs.OccurrenceLemmas.{none_some, times, one_here, none_here, times-append, times_split, once_from, once_few, once_known, none_anywhere}
use Rattle.move_ops.proofs.ReplacementLemmas.{within_list, times_with, times_in_vehicle, pins_with, same_vehicle, all_at, parts, passes_too}

abbrev pub numbers_of : Request → List ℕ
numbers_of (Single s) = s.number ∷ []
numbers_of (Pair a b) = a.number ∷ b.number ∷ []

pub times_put : (n : ℕ) (route : List ℕ) (i m : ℕ) → times n (with_stop_at route i m) ≡ times n route + cond (eqb n m) 1 0
times_put n route i m = let e = times-append n (take (i - 1) route) (m ∷ drop (i - 1) route) in let f = times_split n (i - 1) route in omega arith

pub times_inserted : (n : ℕ) (r : Request) (i j : ℕ) (route : List ℕ) → times n (inserted r i j route) ≡ times n route + times n (numbers_of r)
times_inserted n (Single s) i j route = let e = times_put n route i s.number in omega arith
times_inserted n (Pair a b) i j route =
    let e = times_put n route i a.number in let f = times_put n (with_stop_at route i a.number) j b.number in omega arith

-- the items before the index are unchanged
pub get_prefix : (c : ℕ) (xs ys : List ℕ) (j n : ℕ) → j < c → slice_get xs j ≡ Some n → slice_get (take c xs ++ ys) j ≡ Some n
get_prefix c [] ys j n below at = absurd (none_some n at)
get_prefix zero (x ∷ xs) ys j n below at = absurd (omega arith)
get_prefix (suc c) (x ∷ xs) ys zero n below at = at
get_prefix (suc c) (x ∷ xs) ys (suc j) n below at = get_prefix c xs ys j n (omega arith) at

prefix_put : (route : List ℕ) (i m k n : ℕ) → k < i → item_at route k ≡ Some n → item_at (with_stop_at route i m) k ≡ Some n
prefix_put route i m zero n below at = at
prefix_put route i m (suc j) n below at = get_prefix (i - 1) route (m ∷ drop (i - 1) route) j n (omega arith) at

pub prefix_inserted : (r : Request) (route : List ℕ) (i j k n : ℕ) → k < i → i ≤ j → item_at route k ≡ Some n → item_at (inserted r i j route) k ≡ Some n
prefix_inserted (Single s) route i j k n below order at = prefix_put route i s.number k n below at
prefix_inserted (Pair a b) route i j k n below order at =
    prefix_put (with_stop_at route i a.number) j b.number k n (omega arith) (prefix_put route i a.number k n below at)

-- the request's stops are current and in no route
pub found_known : NamedRequestsAreFound → (p : Instance) (name n : ℕ) (r : Request) → IsInstance p → lookup (nat_eq name) p.requests ≡ Some r
    → IsSome (stop_in n r) → IsKnownStop p n
found_known found p name n r valid at some = subst (λ o. IsSome o) (sym (found p n name r valid at some).stop) some

pub valid_request : (es : List (ℕ × Request)) (name : ℕ) (r : Request) → AllByRecursion (λ e. IsRequest e.1) es → lookup (nat_eq name) es ≡ Some r → IsRequest r
valid_request es name r valid at = valid-among name es r valid at

pub in_numbers : (n : ℕ) (r : Request) → 1 ≤ times n (numbers_of r) → IsSome (stop_in n r)
in_numbers n (Single s) some = elim (eqb_tells n s.number) [
  | inl t ↦ rw (eq-eqb s.number n (sym t.1)) (search rules)
  | inr t ↦ (let e = none_here n s.number t.0 in absurd (omega arith))
]
in_numbers n (Pair a b) some = elim (eqb_tells a.number n) [
  | inl t ↦ rw t.0 (search rules)
  | inr t ↦ elim (eqb_tells b.number n) [
    | inl u ↦ rw (t.0, u.0) (search rules)
    | inr u ↦ (
        let e : eqb n a.number ≡ false = ne_eqb n a.number (λ x. t.1 (sym x)) in
        let f : eqb n b.number ≡ false = ne_eqb n b.number (λ x. u.1 (sym x)) in
        let g = none_here n a.number e in let h = none_here n b.number f in absurd (omega arith))
  ]
]

pub few_numbers : (n : ℕ) (r : Request) → IsRequest r → times n (numbers_of r) ≤ 1
few_numbers n (Single s) valid = elim (eqb_tells n s.number) [
  | inl t ↦ (let e = one_here n s.number t.1 in omega arith)
  | inr t ↦ (let e = none_here n s.number t.0 in omega arith)
]
few_numbers n (Pair a b) valid = elim (eqb_tells n a.number) [
  | inl t ↦ elim (eqb_tells n b.number) [
    | inl u ↦ absurd (valid.2 (sym t.1 ∙ u.1))
    | inr u ↦ (let e = one_here n a.number t.1 in let f = none_here n b.number u.0 in omega arith)
  ]
  | inr t ↦ elim (eqb_tells n b.number) [
    | inl u ↦ (let e = none_here n a.number t.0 in let f = one_here n b.number u.1 in omega arith)
    | inr u ↦ (let e = none_here n a.number t.0 in let f = none_here n b.number u.0 in omega arith)
  ]
]

pub nowhere : (routes : List (List ℕ)) (r : Request) → is_planned routes r ≡ false → (n : ℕ) → 1 ≤ times n (numbers_of r) → times n (concat routes) ≡ 0
nowhere routes (Single s) free n some = elim (eqb_tells n s.number) [
  | inl t ↦ rw t.1 (none_anywhere s.number (concat routes) (or_parts (has_stop routes s.number) false free).0)
  | inr t ↦ (let e = none_here n s.number t.0 in absurd (omega arith))
]
nowhere routes (Pair a b) free n some =
    let both = or_parts (has_stop routes a.number) (has_stop routes b.number || false) free in
    elim (eqb_tells n a.number) [
      | inl t ↦ rw t.1 (none_anywhere a.number (concat routes) both.0)
      | inr t ↦ elim (eqb_tells n b.number) [
        | inl u ↦ rw u.1 (none_anywhere b.number (concat routes) (or_parts (has_stop routes b.number) false both.1).0)
        | inr u ↦ (let e = none_here n a.number t.0 in let f = none_here n b.number u.0 in absurd (omega arith))
      ]
    ]

module _ (found : NamedRequestsAreFound) (local : PassingIsLocal) (p : Instance) (pins routes : List (List ℕ)) (valid : IsInstance p)
    (good : passes p pins routes ≡ true)
    (name : ℕ) (r : Request) (named : lookup (nat_eq name) p.requests ≡ Some r) (free : is_planned routes r ≡ false) (v i j : ℕ)
    (from : 1 ≤ v) (within : v ≤ length routes) where
  plan : IsPlan p routes
  plan = (parts local p pins routes good).plan

  few_new : (n : ℕ) → times n (concat (with_route routes v (inserted r i j (route_of routes v)))) ≤ 1
  few_new n =
      let e = times_with n routes v (inserted r i j (route_of routes v)) from within in
      let f = times_inserted n r i j (route_of routes v) in
      let few = once_few p (concat routes) plan n in
      let two = few_numbers n r (request-valid p name r valid named) in
      elim (cases_lt 0 (times n (numbers_of r))) [
        | inl some ↦ (let none = nowhere routes r free n (omega arith) in omega arith)
        | inr none ↦ omega arith
      ]

  known_new : (n : ℕ) → 1 ≤ times n (concat (with_route routes v (inserted r i j (route_of routes v)))) → IsKnownStop p n
  known_new n some =
      let e = times_with n routes v (inserted r i j (route_of routes v)) from within in
      let f = times_inserted n r i j (route_of routes v) in
      elim (cases_lt 0 (times n (numbers_of r))) [
        | inl here ↦ found_known found p name n r valid named (in_numbers n r (omega arith))
        | inr none ↦ once_known p (concat routes) plan n (omega arith)
      ]

  -- the stops of the new plan are current and distinct
  pub inserted_plan : IsPlan p (with_route routes v (inserted r i j (route_of routes v)))
  inserted_plan = once_from p (concat (with_route routes v (inserted r i j (route_of routes v)))) few_new known_new

  within_new : (n : ℕ) → times n (inserted r i j (route_of routes v)) ≤ times n (concat (with_route routes v (inserted r i j (route_of routes v))))
  within_new n =
      let e = times_with n routes v (inserted r i j (route_of routes v)) from within in
      let f = times_in_vehicle n routes v from within in
      omega arith

  -- the stops of the new route are current and distinct
  pub inserted_once : AreDistinctStops p (inserted r i j (route_of routes v))
  inserted_once =
      once_from p (inserted r i j (route_of routes v)) (λ n. let e = within_new n in let f = few_new n in omega arith)
      (λ n some. let e = within_new n in known_new n (omega arith))

  module _ (following : length (route_of pins v) < i) (order : i ≤ j) where
    -- the plan passes exactly when the new route is feasible alone
    pub inserted_passes : IsFeasibleAlone p (inserted r i j (route_of routes v))
        → passes p pins (with_route routes v (inserted r i j (route_of routes v))) ≡ true
    inserted_passes feasible =
        passes_too local p pins routes good (with_route routes v (inserted r i j (route_of routes v))) inserted_plan
        (length-set routes (v - 1) (inserted r i j (route_of routes v)))
        (All-set (IsFeasibleAlone p) routes (v - 1) (inserted r i j (route_of routes v)) feasible ((parts local p pins routes good).feasible))
        (pins_with routes pins v (inserted r i j (route_of routes v)) from within ((parts local p pins routes good).pinned)
        (λ k n pinned at. prefix_inserted r (route_of routes v) i j k n (let h = within_list (route_of pins v) k n pinned in omega arith) order at))

  pub inserted_feasible : passes p pins (with_route routes v (inserted r i j (route_of routes v))) ≡ true
      → IsFeasibleAlone p (inserted r i j (route_of routes v))
  inserted_feasible passed =
      subst (IsFeasibleAlone p) (same_vehicle routes v (inserted r i j (route_of routes v)) from within)
      (all_at (IsFeasibleAlone p) (with_route routes v (inserted r i j (route_of routes v))) v from
      (let e = length-set routes (v - 1) (inserted r i j (route_of routes v)) in omega arith)
      (((local p pins (with_route routes v (inserted r i j (route_of routes v)))).0 passed).feasible))

module _ (found : NamedRequestsAreFound) (local : PassingIsLocal) (says : FeasibleAloneDecidesFeasibility) (p : Instance) (pins routes : List (List ℕ))
    (valid : IsInstance p) (good : passes p pins routes ≡ true)
    (name : ℕ) (r : Request) (named : lookup (nat_eq name) p.requests ≡ Some r) (free : is_planned routes r ≡ false) (x : Insertion)
    (place : is_place_of pins routes r x ≡ true) where
  -- the conditions that the test of the place checks
  low : 1 ≤ x.0
  low =
      leb-true 1 x.0
      (and_parts (leb 1 x.0)
      (leb x.0 (length routes) && are_places r (length (route_of pins x.0)) (length (route_of routes x.0)) x.1 x.2) place).0

  rest : (leb x.0 (length routes) && are_places r (length (route_of pins x.0)) (length (route_of routes x.0)) x.1 x.2) ≡ true
  rest = (and_parts (leb 1 x.0) (leb x.0 (length routes) && are_places r (length (route_of pins x.0)) (length (route_of routes x.0)) x.1 x.2) place).1

  high : x.0 ≤ length routes
  high =
      leb-true x.0 (length routes)
      (and_parts (leb x.0 (length routes)) (are_places r (length (route_of pins x.0)) (length (route_of routes x.0)) x.1 x.2) rest).0

  ordered : (q : Request) (kept stops i j : ℕ) → are_places q kept stops i j ≡ true → (kept < i) × (i ≤ j)
  ordered (Single s) kept stops i j t =
      let a = and_parts (ltb kept i) (leb i (stops + 1) && eqb i j) t in
      let b = and_parts (leb i (stops + 1)) (eqb i j) a.1 in
      let same = eqb-true i j b.1 in
      (ltb-true kept i a.0, omega arith)
  ordered (Pair c d) kept stops i j t =
      let a = and_parts (ltb kept i) (ltb i j && leb j (stops + 2)) t in
      let b = and_parts (ltb i j) (leb j (stops + 2)) a.1 in
      let less = ltb-true i j b.0 in
      (ltb-true kept i a.0, omega arith)

  order : (length (route_of pins x.0) < x.1) × (x.1 ≤ x.2)
  order =
      ordered r (length (route_of pins x.0)) (length (route_of routes x.0)) x.1 x.2
      (and_parts (leb x.0 (length routes)) (are_places r (length (route_of pins x.0)) (length (route_of routes x.0)) x.1 x.2) rest).1

  -- the stops of the new route are current and distinct, as a check of the route requires
  pub route_once : AreDistinctStops p (inserted r x.1 x.2 (route_of routes x.0))
  route_once = inserted_once found local p pins routes valid good name r named free x.0 x.1 x.2 low high

  -- the plan passes exactly when the new route is feasible alone
  pub passes_where_feasible : (b : Bool) → b ≡ feasible_alone p (inserted r x.1 x.2 (route_of routes x.0)) → passes p pins (with_request_at routes r x) ≡ b
  passes_where_feasible true e =
      inserted_passes found local p pins routes valid good name r named free x.0 x.1 x.2 low high order.0 order.1
      ((says p (inserted r x.1 x.2 (route_of routes x.0))).0 (sym e))
  passes_where_feasible false e = elim (cases_Bool (passes p pins (with_request_at routes r x))) [
    | inr fails ↦ fails
    | inl passed ↦ (
        let h = (says p (inserted r x.1 x.2 (route_of routes x.0))).1
        (inserted_feasible found local p pins routes valid good name r named free x.0 x.1 x.2 low high passed) in
        absurd (let k : false ≡ true = e ∙ h in cc))
  ]

  pub put_in_is : (b : Bool) → b ≡ feasible_alone p (inserted r x.1 x.2 (route_of routes x.0))
      → inserted_at p pins routes name x ≡ cond b (Some (with_request_at routes r x)) None
  put_in_is b e = rw (named, free, place, passes_where_feasible b e) refl

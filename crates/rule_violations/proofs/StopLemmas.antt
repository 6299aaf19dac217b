-- The stops in no route are those that rule 3 reports.
use Rattle.std.proofs.Common.{◌≡◌, ◌≢◌, ◌⊎◌, ℕ, zero, suc, ◌+◌, ◌<◌, ◌≤◌, Bool, true, false, not, cond, List, [], ◌∷◌, Option, Some, None, is_some, refl, sym, ap, subst, ◌∙◌, inl, inr, arith, eqb}
use Rattle.std.specs.List.{Contains, flat_map, range_with_len}
use Rattle.std.specs.Option.{IsSome, option_and_then, option_map, option_or}
use Rattle.std.proofs.lemmas.Bool.{and_parts, not-true, not_from_false}
use Rattle.std.proofs.lemmas.Bool.Decides.{eqb_tells}
use Rattle.std.proofs.lemmas.List.Elements.{Contains-append_left, Contains-append_right, Contains-append_cases}
use Rattle.std.proofs.lemmas.Option.{same_Some}
use Rattle.plan_types.specs.Instance.{Instance, IsInstance, first_some, request_with, stop_at}
use Rattle.plan_types.specs.Laws.{NamedRequestsAreFound, RequestsAreStoredByName, StopsAreBelowNext}
use Rattle.plan_types.specs.Request.{partner_in, request_name, stop_in}
use Rattle.plan_types.specs.declared.requests.Stop.{Stop}
use Rattle.plan_types.specs.declared.requests.Request.{Request}
use Rattle.plan_types.specs.declared.requests.Request.TheVariants.{Single, Pair}
use Rattle.route_sched.specs.Cost.{has_stop}
use Rattle.plan_audit.specs.Rules.{IsVisited}
use Rattle.plan_audit.proofs.FirstLemmas.{none_some}
use Rattle.plan_audit.proofs.ServedLemmas.{IsNowhere, a_seat, no_seat}
use Rattle.rule_violations.specs.Violations.{is_missing, missing_from, missing_stops}
use Rattle.rule_violations.specs.Laws.{IsMissingStop}
use Rattle.rule_violations.proofs.ListLemmas.{in_cases, in_head, in_nothing, in_tail}
use Rattle.rule_violations.proofs.RuleLemmas.{both, not_so}
use Rattle.rule_violations.proofs.PositionLemmas.{has_none}

-- the test of two numbers decides whether they are equal
abbrev AreEqualOrNot : ℕ → ℕ → Type 0
AreEqualOrNot x y = ((eqb x y ≡ true) × (x ≡ y)) ⊎ ((eqb x y ≡ false) × (x ≢ y))

flat_to : (f : ℕ → List ℕ) (xs : List ℕ) (n : ℕ) → Contains (flat_map f xs) n → (x : ℕ) × Contains (f x) n
flat_to f [] n c = absurd (in_nothing n c)
flat_to f (x ∷ xs) n c = elim (Contains-append_cases (f x) (flat_map f xs) n c) [
  | inl left ↦ (x, left)
  | inr right ↦ flat_to f xs n right
]

flat_of : (f : ℕ → List ℕ) (xs : List ℕ) (n x : ℕ) → Contains xs x → Contains (f x) n → Contains (flat_map f xs) n
flat_of f [] n x c d = absurd (in_nothing x c)
flat_of f (y ∷ xs) n x c d = elim (in_cases y xs x c) [
  | inl same ↦ Contains-append_left (f y) (flat_map f xs) n (subst (λ z. Contains (f z) n) (sym same) d)
  | inr rest ↦ Contains-append_right (f y) (flat_map f xs) n (flat_of f xs n x rest d)
]

in_range : (a k n : ℕ) → a ≤ n → n < a + k → Contains (range_with_len a k) n
in_range a zero n le lt = absurd (omega arith)
in_range a (suc k) n le lt = elim (eqb_tells a n) [
  | inl t ↦ subst (λ x. Contains (a ∷ range_with_len (a + 1) k) x) t.1 (in_head a (range_with_len (a + 1) k))
  | inr t ↦ (let ne = t.1 in in_tail a (range_with_len (a + 1) k) n (in_range (a + 1) k n (omega arith) (omega arith)))
]

-- a stop that exists has a request
stop_of : (n : ℕ) (es : List (ℕ × Request)) → is_some (first_some (stop_in n) es) ≡ true
    → (r : Request) × (first_some (λ r. option_map (λ _. r) (stop_in n r)) es ≡ Some r) × IsSome (stop_in n r)
stop_of n [] some = not_so some
stop_of n (e ∷ es) some = by (stop_in n e.1) refl (λ h. stop_of n es h) some
  where
    by : (o : Option Stop) → stop_in n e.1 ≡ o
        → (is_some (first_some (stop_in n) es) ≡ true
        → (r : Request) × (first_some (λ r. option_map (λ _. r) (stop_in n r)) es ≡ Some r) × IsSome (stop_in n r))
        → is_some (option_or (stop_in n e.1) (first_some (stop_in n) es)) ≡ true
        → (r : Request) × (option_or (option_map (λ _. e.1) (stop_in n e.1)) (first_some (λ r. option_map (λ _. r) (stop_in n r)) es) ≡ Some r)
        × IsSome (stop_in n r)
    by None at rest some =
        let later = rest (ap (λ o. is_some (option_or o (first_some (stop_in n) es))) (sym at) ∙ some) in
        (later.0, ap (λ o. option_or (option_map (λ _. e.1) o) (first_some (λ r. option_map (λ _. r) (stop_in n r)) es)) at ∙ later.1, later.2)
    by (Some s) at rest some = (e.1, ap (λ o. option_or (option_map (λ _. e.1) o) (first_some (λ r. option_map (λ _. r) (stop_in n r)) es)) at, ap is_some at)

-- the request found for a stop has the stop
found_in : (n : ℕ) (es : List (ℕ × Request)) (r : Request) → first_some (λ r. option_map (λ _. r) (stop_in n r)) es ≡ Some r → IsSome (stop_in n r)
found_in n [] r is = absurd (none_some r is)
found_in n (e ∷ es) r is = by (stop_in n e.1) refl (λ h. found_in n es r h)
  where
    by : (o : Option Stop) → stop_in n e.1 ≡ o → (first_some (λ r. option_map (λ _. r) (stop_in n r)) es ≡ Some r → IsSome (stop_in n r)) → IsSome (stop_in n r)
    by None at rest = rest (ap (λ o. option_or (option_map (λ _. e.1) o) (first_some (λ r. option_map (λ _. r) (stop_in n r)) es)) (sym at) ∙ is)
    by (Some s) at rest =
        let same : e.1 ≡ r =
        same_Some _ _ (ap (λ o. option_or (option_map (λ _. e.1) o) (first_some (λ r. option_map (λ _. r) (stop_in n r)) es)) (sym at) ∙ is) in
        subst (λ (r : Request). IsSome (stop_in n r)) same (ap is_some at)

-- if a lookup of n finds the stop of a single request, n is the number of the stop
single_number : (n : ℕ) (s : Stop) → IsSome (stop_in n (Single s)) → s.number ≡ n
single_number n s some = elim (eqb_tells s.number n) [
  | inl t ↦ t.1
  | inr t ↦ not_so (sym (ap (λ b. is_some (cond b (Some s) None)) t.0) ∙ some)
]

-- n is a stop of the pair, and m is the other one
record IsOfPair (n m : ℕ) (a b : Stop) : Type 0 where
  pub ends : ((a.number ≡ n) × (b.number ≡ m)) ⊎ ((b.number ≡ n) × (a.number ≡ m))
  pub there : IsSome (stop_in m (Pair a b))
  pub partner : partner_in m (Pair a b) ≡ Some n

pair_partner : (n : ℕ) (a b : Stop) → IsSome (stop_in n (Pair a b)) → (m : ℕ) × IsOfPair n m a b
pair_partner n a b some = elim (eqb_tells a.number n) [
  | inl t ↦ (
    b.number,
    record {
      ends = inl (t.1, refl);
      there = delivery_there (eqb_tells a.number b.number) (eqb_tells b.number b.number);
      partner = delivery_partner (eqb_tells a.number b.number) (eqb_tells b.number b.number) ∙ ap Some t.1;
    },
  )
  | inr t ↦ elim (eqb_tells b.number n) [
    | inl u ↦ (
      a.number,
      record {
        ends = inr (u.1, refl);
        there = pickup_there (eqb_tells a.number a.number);
        partner = pickup_partner (eqb_tells a.number a.number) ∙ ap Some u.1;
      },
    )
    | inr u ↦ not_so (sym (ap (λ h. is_some (cond h (Some a) (cond (eqb b.number n) (Some b) None))) t.0 ∙ ap (λ h. is_some (cond h (Some b) None)) u.0) ∙ some)
  ]
]
  where
    delivery_there : AreEqualOrNot a.number b.number → AreEqualOrNot b.number b.number → IsSome (stop_in b.number (Pair a b))
    delivery_there (inl t) u = ap (λ h. is_some (cond h (Some a) (cond (eqb b.number b.number) (Some b) None))) t.0
    delivery_there (inr t) (inl u) =
        ap (λ h. is_some (cond h (Some a) (cond (eqb b.number b.number) (Some b) None))) t.0 ∙ ap (λ h. is_some (cond h (Some b) None)) u.0
    delivery_there (inr t) (inr u) = absurd (u.1 refl)

    delivery_partner : AreEqualOrNot a.number b.number → AreEqualOrNot b.number b.number → partner_in b.number (Pair a b) ≡ Some a.number
    delivery_partner (inl t) u = ap (λ h. cond h (Some b.number) (cond (eqb b.number b.number) (Some a.number) None)) t.0 ∙ ap Some (sym t.1)
    delivery_partner (inr t) (inl u) =
        ap (λ h. cond h (Some b.number) (cond (eqb b.number b.number) (Some a.number) None)) t.0 ∙ ap (λ h. cond h (Some a.number) None) u.0
    delivery_partner (inr t) (inr u) = absurd (u.1 refl)

    pickup_there : AreEqualOrNot a.number a.number → IsSome (stop_in a.number (Pair a b))
    pickup_there (inl t) = ap (λ h. is_some (cond h (Some a) (cond (eqb b.number a.number) (Some b) None))) t.0
    pickup_there (inr t) = absurd (t.1 refl)

    pickup_partner : AreEqualOrNot a.number a.number → partner_in a.number (Pair a b) ≡ Some b.number
    pickup_partner (inl t) = ap (λ h. cond h (Some b.number) (cond (eqb b.number a.number) (Some a.number) None)) t.0
    pickup_partner (inr t) = absurd (t.1 refl)

-- the partner of a stop is a stop of the same request
partner_there : (m n : ℕ) (r : Request) → partner_in m r ≡ Some n → IsSome (stop_in n r)
partner_there m n (Single s) is = absurd (none_some n is)
partner_there m n (Pair a b) is = elim (eqb_tells a.number m) [
  | inl t ↦ delivery (same_Some _ _ (ap (λ h. cond h (Some b.number) (cond (eqb b.number m) (Some a.number) None)) (sym t.0) ∙ is)) (eqb_tells a.number n)
      (eqb_tells b.number n)
  | inr t ↦ elim (eqb_tells b.number m) [
    | inl u ↦ pickup
        (same_Some _ _
        (ap (λ h. cond h (Some a.number) None) (sym u.0) ∙ ap (λ h. cond h (Some b.number) (cond (eqb b.number m) (Some a.number) None)) (sym t.0) ∙ is))
        (eqb_tells a.number n)
    | inr u ↦ absurd
        (none_some n
        (ap (λ h. cond h (Some a.number) None) (sym u.0) ∙ ap (λ h. cond h (Some b.number) (cond (eqb b.number m) (Some a.number) None)) (sym t.0) ∙ is))
  ]
]
  where
    delivery : b.number ≡ n → AreEqualOrNot a.number n → AreEqualOrNot b.number n → IsSome (stop_in n (Pair a b))
    delivery e (inl t) u = ap (λ h. is_some (cond h (Some a) (cond (eqb b.number n) (Some b) None))) t.0
    delivery e (inr t) (inl u) = ap (λ h. is_some (cond h (Some a) (cond (eqb b.number n) (Some b) None))) t.0 ∙ ap (λ h. is_some (cond h (Some b) None)) u.0
    delivery e (inr t) (inr u) = absurd (u.1 e)

    pickup : a.number ≡ n → AreEqualOrNot a.number n → IsSome (stop_in n (Pair a b))
    pickup e (inl t) = ap (λ h. is_some (cond h (Some a) (cond (eqb b.number n) (Some b) None))) t.0
    pickup e (inr t) = absurd (t.1 e)

-- if no stop of the request is in a route, stop n of the request is in none
nowhere_of : (routes : List (List ℕ)) (r : Request) (n : ℕ) → IsNowhere routes r → IsSome (stop_in n r) → IsVisited routes n → ⊥
nowhere_of routes (Single s) n nowhere some = subst (λ m. IsVisited routes m → ⊥) (single_number n s some) nowhere.0
nowhere_of routes (Pair a b) n nowhere some = elim (eqb_tells a.number n) [
  | inl t ↦ subst (λ m. IsVisited routes m → ⊥) t.1 nowhere.0
  | inr t ↦ elim (eqb_tells b.number n) [
    | inl u ↦ subst (λ m. IsVisited routes m → ⊥) u.1 nowhere.1.0
    | inr u ↦ not_so (sym (ap (λ h. is_some (cond h (Some a) (cond (eqb b.number n) (Some b) None))) t.0 ∙ ap (λ h. is_some (cond h (Some b) None)) u.0) ∙ some)
  ]
]

module _ (found : NamedRequestsAreFound) (by_name : RequestsAreStoredByName) (below : StopsAreBelowNext) (p : Instance) (routes : List (List ℕ))
    (valid : IsInstance p) where
  from_test : (x n : ℕ) → Contains (missing_from p routes x) n → is_missing p routes n ≡ true
  from_test x n c = by (is_missing p routes x) refl c
    where
      by : (h : Bool) → is_missing p routes x ≡ h → Contains (cond h (x ∷ []) []) n → is_missing p routes n ≡ true
      by false e c = absurd (in_nothing n c)
      by true e c = elim (in_cases x [] n c) [
        | inl same ↦ subst (λ y. is_missing p routes y ≡ true) same e
        | inr none ↦ absurd (in_nothing n none)
      ]

  reported_by_request : (n : ℕ) (r : Request) → request_with p n ≡ Some r → IsSome (stop_in n r) → IsNowhere routes r → IsMissingStop p routes n
  reported_by_request n r is some nowhere =
      let at = by_name p n r valid is in
      inr (request_name r, ((r, at, nowhere), (r, at, some)))

  reported : (n : ℕ) → is_missing p routes n ≡ true → IsMissingStop p routes n
  reported n h =
      let parts = and_parts (is_some (stop_at p n)) (not (has_stop routes n)) h in
      let t = stop_of n p.requests parts.0 in
      by t.0 t.1 t.2 (no_seat routes n (not-true _ parts.1))
    where
      by : (r : Request) → request_with p n ≡ Some r → IsSome (stop_in n r) → (IsVisited routes n → ⊥) → IsMissingStop p routes n
      by (Single s) is some nowhere =
          reported_by_request n (Single s) is some (subst (λ m. IsVisited routes m → ⊥) (sym (single_number n s some)) nowhere, tt)
      by (Pair a b) is some nowhere = (let pair = pair_partner n a b some in other pair.0 pair.1 (has_stop routes pair.0) refl)
        where
          other : (m : ℕ) → IsOfPair n m a b → (h : Bool) → has_stop routes m ≡ h → IsMissingStop p routes n
          other m pair false e = reported_by_request n (Pair a b) is some (elim (pair.ends) [
            | inl t ↦ (nowhere_at t.0 nowhere, (nowhere_at t.1 (no_seat routes m e), tt))
            | inr t ↦ (nowhere_at t.1 (no_seat routes m e), (nowhere_at t.0 nowhere, tt))
          ])
            where
              nowhere_at : {x y : ℕ} → x ≡ y → (IsVisited routes y → ⊥) → IsVisited routes x → ⊥
              nowhere_at same none t = none (subst (IsVisited routes) same t)
          other m pair true e =
              let t = a_seat routes m e in
              let at = found p m (request_name (Pair a b)) (Pair a b) valid (by_name p n (Pair a b) valid is) (pair.there) in
              inl (t.0, t.1, (m, t.2, at.partner ∙ pair.partner, nowhere))

  missing_now : (n : ℕ) → IsSome (stop_at p n) → (IsVisited routes n → ⊥) → Contains (missing_stops p routes) n
  missing_now n some nowhere =
      let h : is_missing p routes n ≡ true = both (is_some (stop_at p n)) (not (has_stop routes n)) some (not_from_false _ (has_none routes n nowhere)) in
      let lt = below p n valid some in
      flat_of (missing_from p routes) (range_with_len 0 p.next_number) n n (in_range 0 p.next_number n (omega arith) (omega arith))
      (subst (λ b. Contains (cond b (n ∷ []) []) n) (sym h) (in_head n []))

  counted : (n : ℕ) → IsMissingStop p routes n → Contains (missing_stops p routes) n
  counted n (inl t) =
      let m = t.2.0 in
      by (request_with p m) refl t.2.2
    where
      by : (o : Option Request) → request_with p (t.2.0) ≡ o → option_and_then (partner_in (t.2.0)) (request_with p (t.2.0)) ≡ Some n
          → Contains (missing_stops p routes) n
      by None e is = absurd (none_some n (ap (option_and_then (partner_in (t.2.0))) (sym e) ∙ is))
      by (Some r) e is =
          let some = partner_there (t.2.0) n r (ap (option_and_then (partner_in (t.2.0))) (sym e) ∙ is) in
          let at = found p n (request_name r) r valid (by_name p (t.2.0) r valid e) some in
          missing_now n (ap is_some (at.stop) ∙ some) t.2.3
  counted n (inr t) =
      let known = t.1 in
      let r = known.1.0 in
      let at = found p n t.0 r valid known.1.1 known.1.2 in
      let same : known.0.0 ≡ r = same_Some _ _ (sym known.0.1 ∙ known.1.1) in
      missing_now n (ap is_some (at.stop) ∙ known.1.2) (nowhere_of routes r n (subst (IsNowhere routes) same known.0.2) known.1.2)

  pub missing_reported : (n : ℕ)
      → (Contains (missing_stops p routes) n → IsMissingStop p routes n) × (IsMissingStop p routes n → Contains (missing_stops p routes) n)
  missing_reported n = (λ c. (let t = flat_to (missing_from p routes) (range_with_len 0 p.next_number) n c in reported n (from_test t.0 n t.1)), λ is. counted n is)

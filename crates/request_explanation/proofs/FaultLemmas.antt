-- The violation of a vehicle that serves only one request has the rule and the stop of the fault that the
-- auditor finds in its route.
use Rattle.std.proofs.Common.{◌≡◌, ◌∙◌, ◌⊎◌, ℕ, zero, suc, ◌+◌, ◌<◌, ◌≤◌, ◌<ℤ◌, pos, int_lt, Bool, true, false, T, List, []}
use Rattle.std.proofs.Common.{◌∷◌, map, length, slice_get, Option, Some, None, is_some, refl, sym, ap, subst, arith, inl, inr, nat_eq, add-one}
use Rattle.std.specs.List.{find, range_with_len}
use Rattle.std.specs.Map.{lookup}
use Rattle.std.specs.Option.{option_map, option_or}
use Rattle.std.proofs.lemmas.Bool.{cases_lt, eq-eqb, lt-ltb, ltb-true, ne_eqb}
use Rattle.std.proofs.lemmas.Int.{ints}
use Rattle.std.proofs.lemmas.Option.{slice_get_within}
use Rattle.plan_types.specs.Instance.{Instance, IsInstance, partner_at, pickup_at}
use Rattle.plan_types.specs.Laws.{NamedRequestsAreFound, RequestsAreStoredByName}
use Rattle.plan_types.specs.declared.requests.Kind.{Kind}
use Rattle.plan_types.specs.declared.requests.Kind.TheVariants.{LiLim, Vrp}
use Rattle.plan_types.specs.declared.requests.Request.{Request}
use Rattle.plan_types.specs.declared.requests.Request.TheVariants.{Pair, Single}
use Rattle.plan_types.specs.declared.requests.Stop.{Stop}
use Rattle.route_sched.specs.Route.{AreDistinctStops, place}
use Rattle.route_sched.specs.Schedule.{load, start}
use Rattle.plan_audit.specs.Alone.{IsFaultAlone, alone}
use Rattle.plan_audit.specs.FirstFault.{early_delivery_at, first_place_fault, is_late, is_overloaded, missing_at, late_return_fault, visit_fault}
use Rattle.plan_audit.specs.Locality.{FeasibleAloneDecidesFeasibility}
use Rattle.plan_audit.specs.Rules.{IsEarlyDelivery, IsMissing, IsNotAfter, item_at}
use Rattle.plan_audit.specs.Verdict.{Breaks, IsFirstBroken, IsVerdictWithin}
use Rattle.plan_audit.specs.declared.rules.Verdict.TheVariants.{Broken}
use Rattle.plan_audit.proofs.AloneLemmas.{delivered_fault, late_fault, load_fault, missing_fault, only_route, return_fault}
use Rattle.plan_audit.proofs.FirstLemmas.{reported_nothing}
use Rattle.plan_audit.proofs.TimeLemmas.{nonzero}
use Rattle.move_ops.proofs.InsertionLemmas.{in_numbers, valid_request}
use Rattle.move_ops.proofs.OccurrenceLemmas.{none_some, one_here, some_same}
use Rattle.plan_explain.specs.Tables.{row_after}
use Rattle.plan_explain.specs.declared.rows.Row.{Row}
use Rattle.request_explanation.specs.Laws.{AloneMatchesFault, MatchesFault}
use Rattle.request_explanation.specs.LimitViolations.{is_heavy, lateness_at, lateness_in, violation_of, overload_at, overload_in}
use Rattle.request_explanation.specs.LimitViolations as missed
use Rattle.request_explanation.specs.Why.{alone_route}
use Rattle.request_explanation.specs.declared.limit_violations.LimitViolation.{LimitViolation}
use Rattle.request_explanation.proofs.AloneLemmas.{alone_is_judged, alone_stands, at_most, back, heavy_return, heavy_stop, in_time, map_none, none_found}
use Rattle.request_explanation.proofs.MayTake.{alone_once}

-- ---- the first of a range of places that passes a test
record IsFirstAt {X : Type 0} (test : X → Bool) (f : ℕ → X) (a e : ℕ) (x : X) : Type 0 where
  k : ℕ
  from : a ≤ k
  to : k < e
  is : f k ≡ x
  holds : test (f k) ≡ true
  before : (j : ℕ) → a ≤ j → j < k → test (f j) ≡ false

violations_at : {X : Type 0} (test : X → Bool) (f : ℕ → X) (a n : ℕ) (x : X) → find test (map f (range_with_len a n)) ≡ Some x → IsFirstAt test f a (a + n) x
violations_at test f a zero x is = absurd (none_some x is)
violations_at test f a (suc n) x is = by (test (f a)) refl (violations_at test f (a + 1) n x)
  where
    by : (b : Bool) → test (f a) ≡ b → (find test (map f (range_with_len (a + 1) n)) ≡ Some x → IsFirstAt test f (a + 1) (a + 1 + n) x) → IsFirstAt test f a (a + suc n) x
    by true e later = record { k = a; from = omega arith; to = omega arith; is = some_same (f a) x (rw e at is); holds = e; before = λ j from below. absurd (omega arith) }
    by false e later =
        let r = later (rw e at is) in
        let from = r.from in
        let to = r.to in
        record {
          k = r.k;
          from = omega arith;
          to = omega arith;
          is = r.is;
          holds = r.holds;
          before = λ j from below. elim (cases_lt a j) [
            | inl lt ↦ r.before j (omega arith) below
            | inr ge ↦ (let same : a ≡ j = omega arith in subst (λ j. test (f j) ≡ false) same e)
          ];
        }

mapped : {X Y : Type 0} (g : X → Y) (o : Option X) (y : Y) → option_map g o ≡ Some y → (x : X) × (o ≡ Some x) × (g x ≡ y)
mapped g None y is = absurd (none_some y is)
mapped g (Some x) y is = (x, refl, some_same (g x) y is)

-- ---- options and tests
is_not : (b : Bool) → (b ≡ true → ⊥) → b ≡ false
is_not true fails = absurd (fails refl)
is_not false fails = refl

is_so : (b : Bool) → (b ≡ false → ⊥) → b ≡ true
is_so true fails = refl
is_so false fails = absurd (fails refl)

nothing : {X : Type 0} (o : Option X) → is_some o ≡ false → o ≡ None
nothing None none = refl
nothing (Some x) none = absurd (let h : true ≡ false = none in cc)

both_ways : (b : Bool) → b ≡ true → b ≡ false → ⊥
both_ways b holds fails = let h : true ≡ false = sym holds ∙ fails in cc

-- ---- a route of stops that breaks no rule on pairs
module _ (p : Instance) (route : List ℕ) (valid : IsInstance p) (once : AreDistinctStops p route) (some : 0 < length route)
    (numbered : (k : ℕ) → k < length route → 1 ≤ (place p route (k + 1)).number) (stands : (k : ℕ) → k < length route → slice_get route k ≡ Some (place p route (k + 1)).number)
    (whole : (r i n : ℕ) → IsMissing p (route ∷ []) r i n → ⊥) (first : (r i n : ℕ) → IsEarlyDelivery p (route ∷ []) r i n → ⊥) where
  no_missing : is_some (first_place_fault (λ _ n. missing_at p (route ∷ []) n) 0 route) ≡ false
  no_missing = is_not (is_some (first_place_fault (λ _ n. missing_at p (route ∷ []) n) 0 route)) (λ is. let b = missing_fault p route once _ refl is in whole b.0 b.1 b.2 b.3.broken)

  no_delivered : is_some (first_place_fault (early_delivery_at p (route ∷ [])) 0 route) ≡ false
  no_delivered = is_not (is_some (first_place_fault (early_delivery_at p (route ∷ [])) 0 route)) (λ is. let b = delivered_fault p route once _ refl no_missing _ refl is in first b.0 b.1 b.2 b.3.broken)

  -- The stop at the place after place k. If the auditor finds a fault there, that fault is its verdict.
  abbrev next_stop : ℕ → ℕ
  next_stop k = (place p route (k + 1)).number

  verdict_at : (number n : ℕ) (f : IsFaultAlone p route number) → f.2.0 ≡ 1 → f.2.2 ≡ n → (i : ℕ) × IsVerdictWithin 3 8 p (alone route) (Broken number 1 i n)
  verdict_at number n f one stop = (
    f.2.1,
    (f.0, f.1, subst (λ (n : ℕ). IsFirstBroken 3 8 p (alone route) f.0 1 f.2.1 n) stop (subst (λ (r : ℕ). IsFirstBroken 3 8 p (alone route) f.0 r f.2.1 f.2.2) one f.2.3)),
  )

  -- the fault of a rule on visits is at the first place that fails
  module _ (Fails : List ℕ → ℕ → Type 0) (k : ℕ) (below : k < length route) (earliest : (j : ℕ) → j < length route → Fails route (suc j) → k ≤ j) where
    here : (r i n : ℕ) → (other : List ℕ) × (item_at (route ∷ []) r ≡ Some other) × (item_at other i ≡ Some n) × Fails other i →
        IsNotAfter r i n 1 (suc k) (next_stop k) → (r ≡ 1) × (n ≡ next_stop k)
    here r i n b least =
        let one = only_route route b.0 r b.1 in (
          one.0,
          stop i (subst (λ (l : List ℕ). item_at l i ≡ Some n) (sym one.1) b.2) (subst (λ (l : List ℕ). Fails l i) (sym one.1) b.3)
              (elim least [ inl lt ↦ (let e = one.0 in absurd (omega arith)) | inr at ↦ at.1 ]),
        )
      where
        stop : (i : ℕ) → item_at route i ≡ Some n → Fails route i → (i < suc k) ⊎ ((i ≡ suc k) × (n ≤ next_stop k)) → n ≡ next_stop k
        stop zero on fails order = absurd (none_some n on)
        stop (suc j) on fails order =
            let from = earliest j (slice_get_within route j n on) fails in
            let same : j ≡ k = elim order [ inl lt ↦ omega arith | inr e ↦ (let f = e.0 in omega arith) ] in
            some_same n (next_stop k) (sym on ∙ (ap (slice_get route) same ∙ stands k below))

    exact : (number : ℕ) (f : IsFaultAlone p route number) → (other : List ℕ) × (item_at (route ∷ []) f.2.0 ≡ Some other) × (item_at other f.2.1 ≡ Some f.2.2) × Fails other f.2.1
        → Breaks p (alone route) f.0 1 (suc k) (next_stop k) → (i : ℕ) × IsVerdictWithin 3 8 p (alone route) (Broken number 1 i (next_stop k))
    exact number f b broken =
        let least = f.2.3 in
        let order : IsNotAfter f.2.0 f.2.1 f.2.2 1 (suc k) (next_stop k) = elim (least.least f.0 1 (suc k) (next_stop k) least.from least.to broken)
        [ inl lt ↦ absurd (omega arith) | inr e ↦ e.1 ] in
        let at = here f.2.0 f.2.1 f.2.2 b order in
        verdict_at number (next_stop k) f at.0 at.1

  -- ---- loads
  abbrev IsAbove : List ℕ → ℕ → Type 0
  IsAbove other i = pos p.capacity <ℤ load p other i

  above : (k : ℕ) → k < length route → is_heavy p.capacity (row_after p route k) ≡ true → int_lt (pos p.capacity) (load p route (k + 1)) ≡ true
  above k below heavy = sym (heavy_stop p route valid numbered k below) ∙ heavy

  not_heavy : (j : ℕ) → j < length route → is_heavy p.capacity (row_after p route j) ≡ false → IsAbove route (suc j) → ⊥
  not_heavy j below light fails =
      let le = at_most (pos p.capacity) (load p route (j + 1)) (sym (heavy_stop p route valid numbered j below) ∙ light) in
      let gt : pos p.capacity <ℤ load p route (j + 1) = subst (IsAbove route) (sym (add-one j)) fails in
      omega (arith, ints)

  overload : (k : ℕ) → k < length route → is_heavy p.capacity (row_after p route k) ≡ true → ((j : ℕ) → 0 ≤ j → j < k → is_heavy p.capacity (row_after p route j) ≡ false)
      → MatchesFault p route (Some (overload_at p.capacity (row_after p route k)))
  overload k below heavy before =
      let fails : IsAbove route (suc k) = subst (IsAbove route) (add-one k) (record { lt = subst T (sym (above k below heavy)) tt }) in
      let reported : visit_fault p (is_overloaded p) route k (next_stop k) ≡ Some (next_stop k) = rw (above k below heavy) refl in
      let found : is_some (first_place_fault (visit_fault p (is_overloaded p) route) 0 route) ≡ true = is_so
      (is_some (first_place_fault (visit_fault p (is_overloaded p) route) 0 route))
      (λ none. none_some (next_stop k)
      (sym (reported_nothing (visit_fault p (is_overloaded p) route) route (nothing _ none) k (next_stop k) (stands k below)) ∙ reported)) in
      let fault = load_fault p route once _ refl no_missing _ refl no_delivered _ refl found in
      exact IsAbove k below (λ j within broken. elim (cases_lt j k) [ inl lt ↦ absurd (not_heavy j within (before j (omega arith) lt) broken) | inr ge ↦ ge ]) 6 (_, refl, fault) fault.3.broken
      (route, refl, stands k below, fails)

  -- ---- times, if no load exceeds the capacity and the problem has times
  module _ (light : (k : ℕ) → k < length route → is_heavy p.capacity (row_after p route k) ≡ false) (lilim : p.kind ≡ LiLim) where
    no_overload : is_some (first_place_fault (visit_fault p (is_overloaded p) route) 0 route) ≡ false
    no_overload = is_not (is_some (first_place_fault (visit_fault p (is_overloaded p) route) 0 route)) (λ is.
        let b = load_fault p route once _ refl no_missing _ refl no_delivered _ refl is in
        let o = b.3.broken in
        let one = only_route route o.0 b.0 o.1 in
        nowhere b.1 b.2 (subst (λ (l : List ℕ). item_at l b.1 ≡ Some b.2) (sym one.1) o.2) (subst (λ (l : List ℕ). IsAbove l b.1) (sym one.1) o.3))
      where
        nowhere : (i n : ℕ) → item_at route i ≡ Some n → IsAbove route i → ⊥
        nowhere zero n on fails = none_some n on
        nowhere (suc j) n on fails = let within = slice_get_within route j n on in not_heavy j within (light j within) fails

    abbrev IsFollowing : List ℕ → ℕ → Type 0
    IsFollowing other i = (place p other i).latest < start p other i

    not_late : (j : ℕ) → missed.is_late (row_after p route j) ≡ false → IsFollowing route (suc j) → ⊥
    not_late j punctual fails =
        let le = in_time (place p route (j + 1)).latest (start p route (j + 1)) punctual in
        let gt : (place p route (j + 1)).latest < start p route (j + 1) = subst (IsFollowing route) (sym (add-one j)) fails in
        omega arith

    late : (k : ℕ) → k < length route → missed.is_late (row_after p route k) ≡ true → ((j : ℕ) → 0 ≤ j → j < k → missed.is_late (row_after p route j) ≡ false)
        → MatchesFault p route (Some (lateness_at (row_after p route k)))
    late k below is before =
        let fails : IsFollowing route (suc k) = subst (IsFollowing route) (add-one k) (ltb-true (place p route (k + 1)).latest (start p route (k + 1)) is) in
        let reported : visit_fault p is_late route k (next_stop k) ≡ Some (next_stop k) = rw is refl in
        let found : is_some (first_place_fault (visit_fault p is_late route) 0 route) ≡ true = is_so (is_some (first_place_fault (visit_fault p is_late route) 0 route))
        (λ none. none_some (next_stop k)
        (sym (reported_nothing (visit_fault p is_late route) route (nothing _ none) k (next_stop k) (stands k below)) ∙ reported)) in
        let fault = late_fault p route once _ refl no_missing _ refl no_delivered _ refl no_overload lilim _ refl found in
        let from = numbered k below in
        rw (ne_eqb (next_stop k) 0 (λ e. omega arith))
        (exact IsFollowing k below (λ j within broken. elim (cases_lt j k) [ inl lt ↦ absurd (not_late j (before j (omega arith) lt) broken) | inr ge ↦ ge ]) 7 (_, refl, fault) fault.3.broken.1
        (lilim, (route, refl, stands k below, fails)))

    late_return : missed.is_late (row_after p route (length route)) ≡ true → ((j : ℕ) → 0 ≤ j → j < length route → missed.is_late (row_after p route j) ≡ false)
        → MatchesFault p route (Some (lateness_at (row_after p route (length route))))
    late_return is before =
        let depot = back p route valid numbered in
        let zero_is : next_stop (length route) ≡ 0 = ap (λ (s : Stop). s.number) depot ∙ valid.depot.number in
        let due : p.depot.latest < start p route (length route + 1) =
        subst (λ (s : Stop). s.latest < start p route (length route + 1)) depot (ltb-true (place p route (length route + 1)).latest (start p route (length route + 1)) is) in
        let found : is_some (late_return_fault p route) ≡ true = rw (nonzero (length route) some, lt-ltb p.depot.latest (start p route (length route + 1)) due) refl in
        let none_late : is_some (first_place_fault (visit_fault p is_late route) 0 route) ≡ false = is_not (is_some (first_place_fault (visit_fault p is_late route) 0 route)) (λ is.
        let b = late_fault p route once _ refl no_missing _ refl no_delivered _ refl no_overload lilim _ refl is in
        let o = b.3.broken.1 in
        let one = only_route route o.0 b.0 o.1 in
        nowhere b.1 b.2 (subst (λ (l : List ℕ). item_at l b.1 ≡ Some b.2) (sym one.1) o.2) (subst (λ (l : List ℕ). IsFollowing l b.1) (sym one.1) o.3)) in
        let fault = return_fault p route once _ refl no_missing _ refl no_delivered _ refl no_overload lilim _ refl none_late _ refl found in
        let o = fault.3.broken.1 in
        rw zero_is (verdict_at 8 0 (_, refl, fault) (only_route route o.0 fault.0 o.1).0 o.4)
      where
        nowhere : (i n : ℕ) → item_at route i ≡ Some n → IsFollowing route i → ⊥
        nowhere zero n on fails = none_some n on
        nowhere (suc j) n on fails = not_late j (before j (omega arith) (slice_get_within route j n on)) fails

  -- ---- the violation
  abbrev rows : List Row
  rows = map (row_after p route) (range_with_len 0 (length route + 1))

  heavy_reported : (m : LimitViolation) → overload_in p.capacity rows ≡ Some m → MatchesFault p route (Some m)
  heavy_reported m is =
      let row = mapped (overload_at p.capacity) (find (is_heavy p.capacity) rows) m is in
      let at = violations_at (is_heavy p.capacity) (row_after p route) 0 (length route + 1) row.0 row.1 in
      let to = at.to in
      subst (λ (m : LimitViolation). MatchesFault p route (Some m)) (ap (overload_at p.capacity) at.is ∙ row.2)
      (elim (cases_lt at.k (length route)) as (λ _. MatchesFault p route (Some (overload_at p.capacity (row_after p route at.k)))) [
        | inl below ↦ overload at.k below at.holds at.before
        | inr last ↦ (
            let same : length route ≡ at.k = omega arith in
            absurd (both_ways _ at.holds (subst (λ j. is_heavy p.capacity (row_after p route j) ≡ false) same (heavy_return p route valid numbered))))
      ])

  late_reported : (kind : Kind) → p.kind ≡ kind → (m : LimitViolation) → overload_in p.capacity rows ≡ None → lateness_in kind rows ≡ Some m → MatchesFault p route (Some m)
  late_reported Vrp kind m none is = absurd (none_some m is)
  late_reported LiLim kind m none is =
      let light : (k : ℕ) → k < length route → is_heavy p.capacity (row_after p route k) ≡ false =
      λ k below. none_found (is_heavy p.capacity) (row_after p route) 0 (length route + 1) (map_none (overload_at p.capacity) (find (is_heavy p.capacity) rows) none) k (omega arith) (omega arith) in
      let row = mapped lateness_at (find missed.is_late rows) m is in
      let at = violations_at missed.is_late (row_after p route) 0 (length route + 1) row.0 row.1 in
      let to = at.to in
      subst (λ (m : LimitViolation). MatchesFault p route (Some m)) (ap lateness_at at.is ∙ row.2)
      (elim (cases_lt at.k (length route)) as (λ _. MatchesFault p route (Some (lateness_at (row_after p route at.k)))) [
        | inl below ↦ late light kind at.k below at.holds at.before
        | inr last ↦ (
            let same : at.k ≡ length route = omega arith in
            subst (λ j. MatchesFault p route (Some (lateness_at (row_after p route j)))) (sym same)
            (late_return light kind (subst (λ j. missed.is_late (row_after p route j) ≡ true) same at.holds) (λ j from below. at.before j from (omega arith))))
      ])

  pub missed_is_reported : (m : LimitViolation) → violation_of p route ≡ Some m → MatchesFault p route (Some m)
  missed_is_reported m is = by (overload_in p.capacity rows) refl is
    where
      by : (o : Option LimitViolation) → overload_in p.capacity rows ≡ o → option_or o (lateness_in p.kind rows) ≡ Some m → MatchesFault p route (Some m)
      by (Some x) heavy is = subst (λ (m : LimitViolation). MatchesFault p route (Some m)) (some_same x m is) (heavy_reported x heavy)
      by None light is = late_reported p.kind refl m light is

-- ---- a request alone has whole pairs, and picks up first
one_stop : (a i n : ℕ) → item_at (a ∷ []) i ≡ Some n → n ≡ a
one_stop a zero n on = absurd (none_some n on)
one_stop a (suc zero) n on = sym (some_same a n on)
one_stop a (suc (suc i)) n on = absurd (none_some n on)

two_stops : (a b i n : ℕ) → item_at (a ∷ b ∷ []) i ≡ Some n → ((i ≡ 1) × (n ≡ a)) ⊎ ((i ≡ 2) × (n ≡ b))
two_stops a b zero n on = absurd (none_some n on)
two_stops a b (suc zero) n on = inl (omega arith, sym (some_same a n on))
two_stops a b (suc (suc zero)) n on = inr (omega arith, sym (some_same b n on))
two_stops a b (suc (suc (suc i))) n on = absurd (none_some n on)

module _ (found : NamedRequestsAreFound) (p : Instance) (valid : IsInstance p) (name : ℕ) where
  on_it : (route other : List ℕ) (r i n : ℕ) → item_at (route ∷ []) r ≡ Some other → item_at other i ≡ Some n → item_at route i ≡ Some n
  on_it route other r i n at on = subst (λ (l : List ℕ). item_at l i ≡ Some n) (sym (only_route route other r at).1) on

  module _ (s : Stop) (named : lookup (nat_eq name) p.requests ≡ Some (Single s)) where
    found_single : (partner_at p s.number ≡ None) × (pickup_at p s.number ≡ None)
    found_single = let here = found p s.number name (Single s) valid named (in_numbers s.number (Single s) (let e = one_here s.number s.number refl in omega arith)) in (here.partner, here.pickup)

    single_whole : (r i n : ℕ) → IsMissing p (alone_route (Single s) ∷ []) r i n → ⊥
    single_whole r i n b =
        let is = one_stop s.number i b.0 (on_it (alone_route (Single s)) b.1.0 r i b.0 b.1.1 b.1.2) in
        none_some n (sym found_single.0 ∙ subst (λ (m : ℕ). partner_at p m ≡ Some n) is b.2)

    single_first : (r i n : ℕ) → IsEarlyDelivery p (alone_route (Single s) ∷ []) r i n → ⊥
    single_first r i n b =
        let is = one_stop s.number i n (on_it (alone_route (Single s)) b.0.0 r i n b.0.1 b.0.2) in
        none_some b.1.0 (sym found_single.1 ∙ subst (λ (m : ℕ). pickup_at p m ≡ Some b.1.0) is b.1.1)

  module _ (a b : Stop) (named : lookup (nat_eq name) p.requests ≡ Some (Pair a b)) where
    apart : (a.number ≡ b.number) → ⊥
    apart = (valid_request p.requests name (Pair a b) valid.valid named).2

    found_first : (partner_at p a.number ≡ Some b.number) × (pickup_at p a.number ≡ None)
    found_first =
        let here = found p a.number name (Pair a b) valid named (in_numbers a.number (Pair a b) (let e = one_here a.number a.number refl in omega arith)) in
        let self = eq-eqb a.number a.number refl in
        (here.partner ∙ rw self refl, here.pickup ∙ rw self refl)

    found_second : partner_at p b.number ≡ Some a.number
    found_second =
        let here = found p b.number name (Pair a b) valid named (in_numbers b.number (Pair a b) (let e = one_here b.number b.number refl in omega arith)) in
        here.partner ∙ rw (ne_eqb a.number b.number apart, eq-eqb b.number b.number refl) refl

    abbrev pair : List ℕ
    pair = alone_route (Pair a b)

    pair_whole : (r i n : ℕ) → IsMissing p (pair ∷ []) r i n → ⊥
    pair_whole r i n violation =
        elim (two_stops a.number b.number i violation.0 (on_it pair violation.1.0 r i violation.0 violation.1.1 violation.1.2)) [
          | inl e ↦ violation.3 (1, 2, (pair, refl, sym found_first.0 ∙ subst (λ (m : ℕ). partner_at p m ≡ Some n) e.1 violation.2))
          | inr e ↦ violation.3 (1, 1, (pair, refl, sym found_second ∙ subst (λ (m : ℕ). partner_at p m ≡ Some n) e.1 violation.2))
        ]

    pair_first : (r i n : ℕ) → IsEarlyDelivery p (pair ∷ []) r i n → ⊥
    pair_first r i n early =
        let late = early.1.2 in
        let above = late.1 in
        elim (two_stops a.number b.number i n (on_it pair early.0.0 r i n early.0.1 early.0.2)) [
          | inl e ↦ none_some early.1.0 (sym found_first.1 ∙ subst (λ (m : ℕ). pickup_at p m ≡ Some early.1.0) e.1 early.1.1)
          | inr e ↦ (
              let two = e.0 in
              elim (two_stops a.number b.number late.0 early.1.0 (on_it pair late.2.0 r late.0 early.1.0 late.2.1 late.2.2)) [
                | inl f ↦ (let one = f.0 in omega arith)
                | inr f ↦ (let same = f.0 in omega arith)
              ])
        ]

alone_whole : NamedRequestsAreFound → (p : Instance) → IsInstance p → (name : ℕ) (r : Request) → lookup (nat_eq name) p.requests ≡ Some r → (q i n : ℕ) → IsMissing p (alone_route r ∷ []) q i n → ⊥
alone_whole found p valid name (Single s) named = single_whole found p valid name s named
alone_whole found p valid name (Pair a b) named = pair_whole found p valid name a b named

alone_first : NamedRequestsAreFound → (p : Instance) → IsInstance p → (name : ℕ) (r : Request) → lookup (nat_eq name) p.requests ≡ Some r → (q i n : ℕ) → IsEarlyDelivery p (alone_route r ∷ []) q i n → ⊥
alone_first found p valid name (Single s) named = single_first found p valid name s named
alone_first found p valid name (Pair a b) named = pair_first found p valid name a b named

alone_some : (r : Request) → 0 < length (alone_route r)
alone_some (Single s) = omega arith
alone_some (Pair a b) = omega arith

pub alone_matches : NamedRequestsAreFound → RequestsAreStoredByName → FeasibleAloneDecidesFeasibility → AloneMatchesFault
alone_matches found stand says p name r valid named = by (violation_of p (alone_route r)) refl
  where
    by : (o : Option LimitViolation) → violation_of p (alone_route r) ≡ o → MatchesFault p (alone_route r) o
    by None is = (alone_is_judged found stand says p name r valid named).0 is
    by (Some m) is =
        missed_is_reported p (alone_route r) valid (alone_once found p valid name r named) (alone_some r) (λ k below. (alone_stands found stand p valid name r named k below).0)
        (λ k below. (alone_stands found stand p valid name r named k below).1) (alone_whole found p valid name r named) (alone_first found p valid name r named) m is

-- A route exceeds no limit exactly if `KeepsLimits` holds for it. The route of a vehicle that serves only one
-- request is then feasible alone by the auditor's rules.
use Rattle.std.proofs.Common.{◌≡◌, ◌∙◌, ℕ, zero, suc, ◌+◌, ◌-◌, ◌<◌, ◌≤◌, ◌≤ℤ◌, ◌<ℤ◌, ℤ, pos, int_lt, ltb, Bool, true, false}
use Rattle.std.proofs.Common.{T, List, [], map, length, get_or, slice_get, Option, Some, None, refl, sym, ap, subst, arith, inl, inr, nat_eq}
use Rattle.std.specs.List.{find, range_with_len}
use Rattle.std.specs.Map.{lookup}
use Rattle.std.specs.Option.{option_map, option_or}
use Rattle.std.proofs.lemmas.Bool.{cases_Bool, cases_lt, eq-eqb, ne_eqb}
use Rattle.std.proofs.lemmas.Bool.Decides.{leb_tells}
use Rattle.std.proofs.lemmas.Int.{ints, by_lt_z}
use Rattle.plan_types.specs.Instance.{Instance, IsInstance}
use Rattle.plan_types.specs.Laws.{NamedRequestsAreFound, RequestsAreStoredByName}
use Rattle.plan_types.specs.Limits.{IsStop}
use Rattle.plan_types.specs.Request.{stop_in}
use Rattle.plan_types.specs.declared.requests.Kind.{Kind}
use Rattle.plan_types.specs.declared.requests.Kind.TheVariants.{LiLim, Vrp}
use Rattle.plan_types.specs.declared.requests.Request.{Request}
use Rattle.plan_types.specs.declared.requests.Request.TheVariants.{Pair, Single}
use Rattle.plan_types.specs.declared.requests.Stop.{Stop}
use Rattle.route_sched.specs.Route.{place}
use Rattle.route_sched.specs.Schedule.{load, start}
use Rattle.route_sched.proofs.KnownStops.{place-return, place-stop}
use Rattle.plan_audit.specs.Locality.{FeasibleAloneDecidesFeasibility}
use Rattle.plan_audit.specs.Passes.{feasible_alone, keeps_times}
use Rattle.slack_tables.specs.Insertion.{KeepsLimits}
use Rattle.move_ops.proofs.FitLemmas.{fits, route_limits}
use Rattle.move_ops.proofs.InsertionLemmas.{in_numbers, numbers_of, valid_request}
use Rattle.move_ops.proofs.OccurrenceLemmas.{none_some, one_here, times}
use Rattle.plan_explain.specs.Tables.{row_after}
use Rattle.request_explanation.specs.Laws.{AloneIsJudgedByRules}
use Rattle.request_explanation.specs.LimitViolations.{is_heavy, is_late, lateness_at, lateness_in, violation_of, overload_at, overload_in}
use Rattle.request_explanation.specs.Why.{alone_route}

-- ---- the first of a range of places that passes a test
find_none : {X : Type 0} (test : X → Bool) (f : ℕ → X) (a n : ℕ) → ((k : ℕ) → a ≤ k → k < a + n → test (f k) ≡ false) → find test (map f (range_with_len a n)) ≡ None
find_none test f a zero none = refl
find_none test f a (suc n) none = rw (none a (omega arith) (omega arith)) (find_none test f (a + 1) n (λ k from to. none k (omega arith) (omega arith)))

pub none_found : {X : Type 0} (test : X → Bool) (f : ℕ → X) (a n : ℕ) → find test (map f (range_with_len a n)) ≡ None → (k : ℕ) → a ≤ k → k < a + n → test (f k) ≡ false
none_found test f a zero none k from to = absurd (omega arith)
none_found test f a (suc n) none k from to = elim (cases_Bool (test (f a))) [
  | inl t ↦ absurd (none_some (f a) (sym (rw t at none)))
  | inr t ↦ elim (cases_lt a k) [
    | inl later ↦ none_found test f (a + 1) n (rw t at none) k (omega arith) (omega arith)
    | inr here ↦ (let same : a ≡ k = omega arith in subst (λ j. test (f j) ≡ false) same t)
  ]
]

pub map_none : {X Y : Type 0} (f : X → Y) (o : Option X) → option_map f o ≡ None → o ≡ None
map_none f None none = refl
map_none f (Some x) none = absurd (none_some (f x) (sym none))

or_none : {X : Type 0} (a b : Option X) → option_or a b ≡ None → (a ≡ None) × (b ≡ None)
or_none None b none = (refl, none)
or_none (Some x) b none = absurd (none_some x (sym none))

-- ---- tests
pub at_most : (most l : ℤ) → int_lt most l ≡ false → l ≤ℤ most
at_most most l fails = by_lt_z {P = l ≤ℤ most} most l (λ above. absurd (subst T fails above.lt)) (λ le. le)

not_above : (most l : ℤ) → l ≤ℤ most → int_lt most l ≡ false
not_above most l le = by (int_lt most l) refl
  where
    by : (b : Bool) → int_lt most l ≡ b → int_lt most l ≡ false
    by false e = e
    by true e = (let above : most <ℤ l = record { lt = subst T (sym e) tt } in absurd (omega (arith, ints)))

not_later : (latest t : ℕ) → t ≤ latest → ltb latest t ≡ false
not_later latest t le = elim (leb_tells (suc latest) t) [
  | inl t ↦ absurd (omega (arith, t.1))
  | inr t ↦ t.0
]

pub in_time : (latest t : ℕ) → ltb latest t ≡ false → t ≤ latest
in_time latest t fails = elim (leb_tells (suc latest) t) [
  | inl t ↦ absurd (let k : true ≡ false = sym t.0 ∙ fails in cc)
  | inr t ↦ omega (arith, t.1)
]

-- ---- a route of stops whose numbers are not the depot's
module _ (p : Instance) (route : List ℕ) (valid : IsInstance p) (numbered : (k : ℕ) → k < length route → 1 ≤ (place p route (k + 1)).number) where
  -- the row of a stop is overloaded if the load after it is above the capacity; the row of the return never is
  pub heavy_stop : (k : ℕ) → k < length route → is_heavy p.capacity (row_after p route k) ≡ int_lt (pos p.capacity) (load p route (k + 1))
  heavy_stop k below = let one = numbered k below in rw (ne_eqb (place p route (k + 1)).number 0 (λ e. omega arith)) refl

  pub back : place p route (length route + 1) ≡ p.depot
  back = place-return p route (length route) (omega arith)

  pub heavy_return : is_heavy p.capacity (row_after p route (length route)) ≡ false
  heavy_return = let none : (place p route (length route + 1)).number ≡ 0 = ap (λ (s : Stop). s.number) back ∙ valid.depot.number in rw none refl

  abbrev rows : ℕ
  rows = length route + 1

  no_load : KeepsLimits p route → overload_in p.capacity (map (row_after p route) (range_with_len 0 rows)) ≡ None
  no_load limits = ap (option_map (overload_at p.capacity)) (find_none (is_heavy p.capacity) (row_after p route) 0 rows light)
    where
      light : (k : ℕ) → 0 ≤ k → k < 0 + rows → is_heavy p.capacity (row_after p route k) ≡ false
      light k from to = elim (cases_lt k (length route)) [
        | inl below ↦ heavy_stop k below ∙ not_above (pos p.capacity) (load p route (k + 1)) (limits.load (k + 1) (omega arith) (omega arith))
        | inr last ↦ (let same : length route ≡ k = omega arith in subst (λ j. is_heavy p.capacity (row_after p route j) ≡ false) same heavy_return)
      ]

  -- no row is late, if the problem has times
  timely : KeepsLimits p route → p.kind ≡ LiLim → (k : ℕ) → 0 ≤ k → k < 0 + rows → is_late (row_after p route k) ≡ false
  timely limits lilim k from to = elim (cases_lt k (length route)) [
    | inl below ↦ not_later (place p route (k + 1)).latest (start p route (k + 1)) (limits.window lilim (k + 1) (omega arith) (omega arith))
    | inr last ↦ (
        let same : length route ≡ k = omega arith in
        let due = ap (λ (s : Stop). s.latest) back in
        let most = limits.return lilim in
        subst (λ j. is_late (row_after p route j) ≡ false) same (not_later (place p route (length route + 1)).latest (start p route (length route + 1)) (omega arith)))
  ]

  no_lateness : KeepsLimits p route → (kind : Kind) → p.kind ≡ kind → lateness_in kind (map (row_after p route) (range_with_len 0 rows)) ≡ None
  no_lateness limits Vrp is = refl
  no_lateness limits LiLim is = ap (option_map lateness_at) (find_none is_late (row_after p route) 0 rows (timely limits is))

  -- A route that keeps the limits has no violation, and the other way round.
  pub none_missed : KeepsLimits p route → violation_of p route ≡ None
  none_missed limits = rw (no_load limits) (no_lateness limits p.kind refl)

  late_none : (kind : Kind) → p.kind ≡ kind → kind ≡ LiLim → lateness_in p.kind (map (row_after p route) (range_with_len 0 rows)) ≡ None → (k : ℕ) → k < rows → is_late (row_after p route k) ≡ false
  late_none Vrp is lilim none k to = absurd (let h : Vrp ≡ LiLim = lilim in cc)
  late_none LiLim is lilim none k to =
      none_found is_late (row_after p route) 0 rows
      (map_none lateness_at (find is_late (map (row_after p route) (range_with_len 0 rows)))
      (subst (λ kind. lateness_in kind (map (row_after p route) (range_with_len 0 rows)) ≡ None) is none)) k (omega arith) (omega arith)

  pub limits_kept : violation_of p route ≡ None → KeepsLimits p route
  limits_kept none =
      let both = or_none (overload_in p.capacity (map (row_after p route) (range_with_len 0 rows))) (lateness_in p.kind (map (row_after p route) (range_with_len 0 rows))) none in
      let light = none_found (is_heavy p.capacity) (row_after p route) 0 rows
      (map_none (overload_at p.capacity) (find (is_heavy p.capacity) (map (row_after p route) (range_with_len 0 rows))) both.0) in
      record {
        load = λ i from to.
            let at : i - 1 + 1 ≡ i = omega arith in
            let below : i - 1 < length route = omega arith in
            subst (λ j. load p route j ≤ℤ pos p.capacity) at
            (at_most (pos p.capacity) (load p route (i - 1 + 1)) (sym (heavy_stop (i - 1) below) ∙ light (i - 1) (omega arith) (omega arith)));
        window = λ lilim i from to.
            let at : i - 1 + 1 ≡ i = omega arith in
            subst (λ j. start p route j ≤ (place p route j).latest) at
            (in_time (place p route (i - 1 + 1)).latest (start p route (i - 1 + 1)) (late_none p.kind refl lilim both.1 (i - 1) (omega arith)));
        return = λ lilim.
            let most = in_time (place p route (length route + 1)).latest (start p route (length route + 1)) (late_none p.kind refl lilim both.1 (length route) (omega arith)) in
            let due = ap (λ (s : Stop). s.latest) back in
            omega arith;
      }

-- ---- a request alone
module _ (found : NamedRequestsAreFound) (stand : RequestsAreStoredByName) (p : Instance) (valid : IsInstance p) where
  -- item k of a route is the number of the stop at place k + 1, and at least 1
  abbrev pub StandsAt : List ℕ → ℕ → Type 0
  StandsAt route k = (1 ≤ (place p route (k + 1)).number) × (slice_get route k ≡ Some (place p route (k + 1)).number)

  -- `StandsAt` holds for the place of a request's stop
  at_place : (name : ℕ) (r : Request) → lookup (nat_eq name) p.requests ≡ Some r → (s : Stop) → stop_in s.number r ≡ Some s → IsStop s → 1 ≤ times s.number (numbers_of r)
      → (route : List ℕ) (k : ℕ) → s.number ≡ get_or route k 0 → slice_get route k ≡ Some s.number → StandsAt route k
  at_place name r named s is stop some route k at on =
      let here = (found p s.number name r valid named (in_numbers s.number r some)).stop in
      let same : place p route (k + 1) ≡ s = place-stop p route k s.number s at (here ∙ is) refl stop in
      (subst (λ (t : Stop). 1 ≤ t.number) (sym same) stop.from_one, on ∙ ap (λ (t : Stop). Some t.number) (sym same))

  pub alone_stands : (name : ℕ) (r : Request) → lookup (nat_eq name) p.requests ≡ Some r → (k : ℕ) → k < length (alone_route r) → StandsAt (alone_route r) k
  alone_stands name (Single s) named zero below =
      let request = valid_request p.requests name (Single s) valid.valid named in
      at_place name (Single s) named s (rw (eq-eqb s.number s.number refl) refl) request.0 (let e = one_here s.number s.number refl in omega arith) (alone_route (Single s)) 0 refl refl
  alone_stands name (Single s) named (suc k) below = absurd (omega arith)
  alone_stands name (Pair a b) named zero below =
      let request = valid_request p.requests name (Pair a b) valid.valid named in
      at_place name (Pair a b) named a (rw (eq-eqb a.number a.number refl) refl) request.0 (let e = one_here a.number a.number refl in omega arith) (alone_route (Pair a b)) 0 refl refl
  alone_stands name (Pair a b) named (suc zero) below =
      let request = valid_request p.requests name (Pair a b) valid.valid named in
      at_place name (Pair a b) named b (rw (ne_eqb a.number b.number request.2, eq-eqb b.number b.number refl) refl) request.1
      (let e = one_here b.number b.number refl in omega arith) (alone_route (Pair a b)) 1 refl refl
  alone_stands name (Pair a b) named (suc (suc k)) below = absurd (omega arith)

  alone_numbered : (name : ℕ) (r : Request) → lookup (nat_eq name) p.requests ≡ Some r → (k : ℕ) → k < length (alone_route r) → 1 ≤ (place p (alone_route r) (k + 1)).number
  alone_numbered name r named k below = (alone_stands name r named k below).0

  idle_times : (kind : Kind) → keeps_times kind p [] ≡ true
  idle_times LiLim = refl
  idle_times Vrp = refl

  idle : feasible_alone p [] ≡ true
  unfolding feasible_alone
  idle = idle_times p.kind

  alone_fits : (name : ℕ) (r : Request) → lookup (nat_eq name) p.requests ≡ Some r → KeepsLimits p (alone_route r) → feasible_alone p (alone_route r) ≡ true
  alone_fits name (Single s) named limits = fits found stand p valid name (Single s) named [] (λ n some. refl) 1 1 (omega arith, omega arith, refl) idle limits
  alone_fits name (Pair a b) named limits = fits found stand p valid name (Pair a b) named [] (λ n some. refl) 1 2 (omega arith, omega arith, omega arith) idle limits

pub alone_is_judged : NamedRequestsAreFound → RequestsAreStoredByName → FeasibleAloneDecidesFeasibility → AloneIsJudgedByRules
alone_is_judged found stand says p name r valid named = (
  λ none. (says p (alone_route r)).0 (alone_fits found stand p valid name r named (limits_kept p (alone_route r) valid (alone_numbered found stand p valid name r named) none)),
  λ feasible. none_missed p (alone_route r) valid (alone_numbered found stand p valid name r named) (route_limits p valid (alone_route r) ((says p (alone_route r)).1 feasible)),
)

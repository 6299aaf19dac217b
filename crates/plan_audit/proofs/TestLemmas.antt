-- The test of a route agrees with feasibility alone.
use Rattle.std.proofs.Common.{
  ◌≡◌,
  ℕ,
  zero,
  suc,
  ◌+◌,
  ◌<◌,
  ◌≤◌,
  Bool,
  true,
  false,
  not,
  ◌&&◌,
  ◌||◌,
  nat_le,
  int_lt,
  pos,
  ◌<ℤ◌,
  List,
  [],
  ◌∷◌,
  length,
  Option,
  Some,
  None,
  slice_get,
  refl,
  sym,
  ap,
  subst,
  ◌∙◌,
  inl,
  inr,
  arith,
  eqb,
  nat_eq,
  T,
}
use Rattle.std.specs.List.{list_all, range_with_len}
use Rattle.std.specs.Option.{option_map_or}
use Rattle.std.proofs.lemmas.Bool.{cases_lt, and_parts, and_from, not-true, both_ways, eq-eqb, eqb-true, leb-true, le-leb, or_cases}
use Rattle.std.proofs.lemmas.Map.Keys.{any_passes_from_place}
use Rattle.std.proofs.lemmas.Option.{same_Some}
use Rattle.plan_types.specs.Instance.{Instance, partner_at, pickup_at}
use Rattle.plan_types.specs.declared.requests.Kind.{Kind}
use Rattle.plan_types.specs.declared.requests.Kind.TheVariants.{LiLim, Vrp}
use Rattle.route_sched.specs.Route.{place}
use Rattle.route_sched.specs.Schedule.{start, load}
use Rattle.plan_audit.specs.Rules.{item_at, HasStopAt, IsVisited}
use Rattle.plan_audit.specs.Alone.{IsFeasibleAlone}
use Rattle.plan_audit.specs.Passes.{has, has_whole_pairs, picks_up_first, keeps_capacity, keeps_windows, is_back_in_time, keeps_times, feasible_alone}
use Rattle.plan_audit.specs.Locality.{FeasibleAloneDecidesFeasibility}
use Rattle.plan_audit.specs.declared.rules.Rule.TheVariants.{MissingStop, SplitPair, EarlyDelivery, Load, Late, LateReturn}
use Rattle.plan_audit.proofs.FirstLemmas.{none_some}
use Rattle.plan_audit.proofs.AloneLemmas.{only_route, not_split, in_route}
use Rattle.plan_audit.proofs.SoundLemmas.{stop_there, stop_within}
use Rattle.plan_audit.proofs.TimeLemmas.{true_from, positive}

-- a test that holds for all items holds for the item at each index, and conversely
pub all_true : {X : Type 0} (test : X → Bool) (xs : List X) → list_all test xs ≡ true → (k : ℕ) (x : X) → slice_get xs k ≡ Some x → test x ≡ true
all_true test [] all k x at = absurd (none_some x at)
all_true test (y ∷ xs) all zero x at = subst (λ z. test z ≡ true) (same_Some y x at) (and_parts (test y) (list_all test xs) all).0
all_true test (y ∷ xs) all (suc k) x at = all_true test xs (and_parts (test y) (list_all test xs) all).1 k x at

pub true_all : {X : Type 0} (test : X → Bool) (xs : List X) → ((k : ℕ) (x : X) → slice_get xs k ≡ Some x → test x ≡ true) → list_all test xs ≡ true
true_all test [] each = refl
true_all test (y ∷ xs) each = and_from (test y) (list_all test xs) (each zero y refl) (true_all test xs (λ k x at. each (suc k) x at))

-- a test that holds for a whole range holds for each number in the range, and conversely
pub range_true : (test : ℕ → Bool) (a n : ℕ) → list_all test (range_with_len a n) ≡ true → (i : ℕ) → a ≤ i → i < a + n → test i ≡ true
range_true test a zero all i from to = absurd (omega arith)
range_true test a (suc n) all i from to =
    let both = and_parts (test a) (list_all test (range_with_len (a + 1) n)) all in
    elim (cases_lt a i) [
      | inl lt ↦ range_true test (a + 1) n both.1 i (omega arith) (omega arith)
      | inr ge ↦ (let same : a ≡ i = omega arith in subst (λ k. test k ≡ true) same both.0)
    ]

pub true_range : (test : ℕ → Bool) (a n : ℕ) → ((i : ℕ) → a ≤ i → i < a + n → test i ≡ true) → list_all test (range_with_len a n) ≡ true
true_range test a zero each = refl
true_range test a (suc n) each =
    and_from (test a) (list_all test (range_with_len (a + 1) n)) (each a (omega arith) (omega arith))
    (true_range test (a + 1) n (λ i from to. each i (omega arith) (omega arith)))

-- a number at a place is in the list, and conversely
pub has_at : (ns : List ℕ) (k n : ℕ) → slice_get ns k ≡ Some n → has ns n ≡ true
has_at ns k n at = any_passes_from_place (nat_eq n) ns k n at (eq-eqb n n refl)

pub place_of_had : (ns : List ℕ) (n : ℕ) → has ns n ≡ true → (k : ℕ) × (slice_get ns k ≡ Some n)
place_of_had [] n had = absurd (let h : false ≡ true = had in cc)
place_of_had (m ∷ ns) n had = elim (or_cases (nat_eq n m) (has ns n) had) [
  | inl e ↦ (zero, ap Some (sym (eqb-true n m e)))
  | inr h ↦ (let t = place_of_had ns n h in (suc t.0, t.1))
]

-- a stop of the only route
in_only : (route : List ℕ) (r i n : ℕ) → HasStopAt (route ∷ []) r i n → (j : ℕ) × (i ≡ suc j) × (slice_get route j ≡ Some n)
in_only route r zero n t = absurd (none_some n t.2)
in_only route r (suc j) n t = (j, refl, subst (λ (l : List ℕ). slice_get l j ≡ Some n) (sym (only_route route t.0 r t.1).1) t.2)

module _ (p : Instance) where
  -- if the test holds, no pickup comes after its delivery
  none_following : (ns : List ℕ) → picks_up_first p ns ≡ true → (i j n m : ℕ) → i < j → slice_get ns i ≡ Some n → slice_get ns j ≡ Some m → pickup_at p n ≡ Some m
      → ⊥
  none_following [] first i j n m lt at on is = none_some n at
  none_following (x ∷ ns) first i zero n m lt at on is = omega arith
  none_following (x ∷ ns) first zero (suc j) n m lt at on is =
      let both = and_parts (not (option_map_or (has ns) (pickup_at p x) false)) (picks_up_first p ns) first in
      let reported : pickup_at p x ≡ Some m = ap (pickup_at p) (same_Some x n at) ∙ is in
      let found : option_map_or (has ns) (pickup_at p x) false ≡ true = ap (λ (o : Option ℕ). option_map_or (has ns) o false) reported ∙ has_at ns j m on in
      both_ways (option_map_or (has ns) (pickup_at p x) false) (not-true (option_map_or (has ns) (pickup_at p x) false) both.0) found
  none_following (x ∷ ns) first (suc i) (suc j) n m lt at on is =
      none_following ns (and_parts (not (option_map_or (has ns) (pickup_at p x) false)) (picks_up_first p ns) first).1 i j n m (omega arith) at on is

  picked_first : (ns : List ℕ) → ((i j n m : ℕ) → i < j → slice_get ns i ≡ Some n → slice_get ns j ≡ Some m → pickup_at p n ≡ Some m → ⊥)
      → picks_up_first p ns ≡ true
  picked_first [] none = refl
  picked_first (x ∷ ns) none =
      and_from (not (option_map_or (has ns) (pickup_at p x) false)) (picks_up_first p ns)
      (by (pickup_at p x) refl)
      (picked_first ns (λ i j n m lt at on is. none (suc i) (suc j) n m (omega arith) at on is))
    where
      had : (m : ℕ) → pickup_at p x ≡ Some m → (b : Bool) → has ns m ≡ b → not b ≡ true
      had m is false e = refl
      had m is true e = (let t = place_of_had ns m e in absurd (none zero (suc t.0) x m (omega arith) refl t.1 is))

      by : (o : Option ℕ) → pickup_at p x ≡ o → not (option_map_or (has ns) o false) ≡ true
      by None e = refl
      by (Some m) e = had m e (has ns m) refl

  module _ (route : List ℕ) where
    -- if the test holds, the other stop of each pair is in the route
    partner_there : has_whole_pairs p route ≡ true → (j m n : ℕ) → slice_get route j ≡ Some m → partner_at p m ≡ Some n → (k : ℕ) × (slice_get route k ≡ Some n)
    partner_there whole j m n at is =
        place_of_had route n
        (ap (λ (o : Option ℕ). option_map_or (has route) o true) (sym is)
        ∙ all_true (λ n. option_map_or (has route) (partner_at p n) true) route whole j m at)

    whole_pairs : ((j m n : ℕ) → slice_get route j ≡ Some m → partner_at p m ≡ Some n → (IsVisited (route ∷ []) n → ⊥) → ⊥)
        → has_whole_pairs p route ≡ true
    whole_pairs none = true_all (λ n. option_map_or (has route) (partner_at p n) true) route (λ j m at. by m j at (partner_at p m) refl)
      where
        had : (m j n : ℕ) → slice_get route j ≡ Some m → partner_at p m ≡ Some n → (b : Bool) → has route n ≡ b → b ≡ true
        had m j n at is true e = refl
        had m j n at is false e =
            absurd (none j m n at is (λ t. (let u = in_only route t.0 t.1 n t.2 in both_ways (has route n) e (has_at route u.0 n u.2))))

        by : (m j : ℕ) → slice_get route j ≡ Some m → (o : Option ℕ) → partner_at p m ≡ o → option_map_or (has route) o true ≡ true
        by m j at None e = refl
        by m j at (Some n) e = had m j n at e (has route n) refl

    not_above : keeps_capacity p route ≡ true → (i n : ℕ) → item_at route i ≡ Some n → pos p.capacity <ℤ load p route i → ⊥
    not_above kept i n at above =
        let within = stop_within route i n at in
        both_ways (int_lt (pos p.capacity) (load p route i))
        (not-true (int_lt (pos p.capacity) (load p route i))
        (range_true (λ i. not (int_lt (pos p.capacity) (load p route i))) 1 (length route) kept i within.0 (omega arith)))
        (true_from (int_lt (pos p.capacity) (load p route i)) (above.lt))

    not_late : keeps_windows p route ≡ true → (i n : ℕ) → item_at route i ≡ Some n → (place p route i).latest < start p route i → ⊥
    not_late kept i n at late =
        let within = stop_within route i n at in
        let le =
        leb-true (start p route i) (place p route i).latest
        (range_true (λ i. nat_le (start p route i) (place p route i).latest) 1 (length route) kept i within.0 (omega arith)) in
        omega arith

    not_back_late : is_back_in_time p route ≡ true → (i : ℕ) → 0 < length route → i ≡ length route + 1 → p.depot.latest < start p route i → ⊥
    not_back_late kept i some is late = elim (or_cases (eqb (length route) 0) (nat_le (start p route (length route + 1)) p.depot.latest) kept) [
      | inl e ↦ (let none = eqb-true (length route) 0 e in omega arith)
      | inr e ↦ (
          let le = leb-true (start p route (length route + 1)) p.depot.latest e in
          let there : p.depot.latest < start p route (length route + 1) = subst (λ k. p.depot.latest < start p route k) is late in
          omega arith)
    ]

    timely : (kind : Kind) → p.kind ≡ kind → keeps_times p.kind p route ≡ true → kind ≡ LiLim
        → (keeps_windows p route ≡ true) × (is_back_in_time p route ≡ true)
    timely Vrp is kept timed = absurd (let h : Vrp ≡ LiLim = timed in cc)
    timely LiLim is kept timed = and_parts (keeps_windows p route) (is_back_in_time p route) (subst (λ k. keeps_times k p route ≡ true) is kept)

    pub feasible_from : feasible_alone p route ≡ true → IsFeasibleAlone p route
    unfolding feasible_alone
    feasible_from test = by
      where
        pairs : (has_whole_pairs p route ≡ true) × ((picks_up_first p route && (keeps_capacity p route && keeps_times p.kind p route)) ≡ true)
        pairs = and_parts (has_whole_pairs p route) (picks_up_first p route && (keeps_capacity p route && keeps_times p.kind p route)) test

        first : (picks_up_first p route ≡ true) × ((keeps_capacity p route && keeps_times p.kind p route) ≡ true)
        first = and_parts (picks_up_first p route) (keeps_capacity p route && keeps_times p.kind p route) pairs.1

        rest : (keeps_capacity p route ≡ true) × (keeps_times p.kind p route ≡ true)
        rest = and_parts (keeps_capacity p route) (keeps_times p.kind p route) first.1

        by : IsFeasibleAlone p route
        by MissingStop r i n from to b =
            let here = in_only route r i b.0 b.1 in
            let there = partner_there pairs.0 here.0 b.0 n here.2 b.2 in
            b.3 (1, suc there.0, (route, refl, there.1))
        by SplitPair r i n from to b = not_split p route r i n b
        by EarlyDelivery r i n from to b =
            let here = in_only route r i n b.0 in
            let there = in_only route r b.1.2.0 b.1.0 b.1.2.2 in
            let lt = b.1.2.1 in
            let a = here.1 in
            let c = there.1 in
            none_following route first.0 here.0 there.0 n b.1.0 (omega arith) here.2 there.2 b.1.1
        by Load r i n from to b =
            not_above rest.0 i n (in_route route (λ l. item_at l i ≡ Some n) r b.0 b.1 b.2) (in_route route (λ l. pos p.capacity <ℤ load p l i) r b.0 b.1 b.3)
        by Late r i n from to b =
            not_late (timely LiLim b.0 rest.1 refl).0 i n (in_route route (λ l. item_at l i ≡ Some n) r b.1.0 b.1.1 b.1.2)
            (in_route route (λ l. (place p l i).latest < start p l i) r b.1.0 b.1.1 b.1.3)
        by LateReturn r i n from to b =
            not_back_late (timely LiLim b.0 rest.1 refl).1 i (in_route route (λ l. 0 < length l) r b.1.0 b.1.1 b.1.2)
            (in_route route (λ l. i ≡ length l + 1) r b.1.0 b.1.1 b.1.3) (in_route route (λ l. p.depot.latest < start p l i) r b.1.0 b.1.1 b.1.5)
        by _ r i n from to b = omega arith

    module _ (kept : IsFeasibleAlone p route) where
      pairs_kept : has_whole_pairs p route ≡ true
      pairs_kept = whole_pairs (λ j m n at is nowhere. kept MissingStop 1 (suc j) n (omega arith) (omega arith) (m, (route, refl, at), is, nowhere))

      first_kept : picks_up_first p route ≡ true
      first_kept =
          picked_first route
          (λ i j n m lt at on is. kept EarlyDelivery 1 (suc i) n (omega arith) (omega arith)
          ((route, refl, at), (m, is, (suc j, omega arith, (route, refl, on)))))

      capacity_kept : keeps_capacity p route ≡ true
      capacity_kept =
          true_range (λ i. not (int_lt (pos p.capacity) (load p route i))) 1 (length route)
          (λ i from to. by i from (omega arith) (int_lt (pos p.capacity) (load p route i)) refl)
        where
          by : (i : ℕ) → 1 ≤ i → i ≤ length route → (b : Bool) → int_lt (pos p.capacity) (load p route i) ≡ b → not b ≡ true
          by i from to false e = refl
          by i from to true e =
              (let stop = stop_there route i from to in absurd
              (kept Load 1 i stop.0 (omega arith) (omega arith) (route, refl, stop.1, record { lt = subst T (sym e) tt })))

      windows_kept : p.kind ≡ LiLim → keeps_windows p route ≡ true
      windows_kept kind =
          true_range (λ i. nat_le (start p route i) (place p route i).latest) 1 (length route)
          (λ i from to. le-leb (start p route i) (place p route i).latest (by i from (omega arith)))
        where
          by : (i : ℕ) → 1 ≤ i → i ≤ length route → start p route i ≤ (place p route i).latest
          by i from to = elim (cases_lt (place p route i).latest (start p route i)) [
            | inl lt ↦ (let stop = stop_there route i from to in absurd (kept Late 1 i stop.0 (omega arith) (omega arith) (kind, (route, refl, stop.1, lt))))
            | inr ge ↦ ge
          ]

      return_kept : p.kind ≡ LiLim → is_back_in_time p route ≡ true
      return_kept kind = by (eqb (length route) 0) refl
        where
          back : 0 < length route → start p route (length route + 1) ≤ p.depot.latest
          back some = elim (cases_lt p.depot.latest (start p route (length route + 1))) [
            | inl lt ↦ absurd (kept LateReturn 1 (length route + 1) 0 (omega arith) (omega arith) (kind, (route, refl, some, refl, refl, lt)))
            | inr ge ↦ ge
          ]

          by : (b : Bool) → eqb (length route) 0 ≡ b → (b || nat_le (start p route (length route + 1)) p.depot.latest) ≡ true
          by true e = refl
          by false e = le-leb (start p route (length route + 1)) p.depot.latest (back (positive (length route) e))

      times_kept : keeps_times p.kind p route ≡ true
      times_kept = by p.kind refl
        where
          by : (kind : Kind) → p.kind ≡ kind → keeps_times kind p route ≡ true
          by Vrp is = refl
          by LiLim is = and_from (keeps_windows p route) (is_back_in_time p route) (windows_kept is) (return_kept is)

      pub feasible_to : feasible_alone p route ≡ true
      unfolding feasible_alone
      feasible_to =
          and_from (has_whole_pairs p route) (picks_up_first p route && (keeps_capacity p route && keeps_times p.kind p route)) pairs_kept
          (and_from (picks_up_first p route) (keeps_capacity p route && keeps_times p.kind p route) first_kept
          (and_from (keeps_capacity p route) (keeps_times p.kind p route) capacity_kept times_kept))

pub feasible_alone_decides_feasibility : FeasibleAloneDecidesFeasibility
feasible_alone_decides_feasibility p route = (feasible_from p route, feasible_to p route)

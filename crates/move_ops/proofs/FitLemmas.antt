-- A request inserted into a route that is feasible alone. The new route is feasible alone exactly when it keeps
-- the limits of load and time.
use Rattle.std.proofs.Common.{◌≡◌, ℕ, zero, suc, ◌+◌, ◌-◌, ◌<◌, ◌≤◌, ◌≤ℤ◌, ◌<ℤ◌, ℤ, pos, nat_le, nat_eq, eqb, ◌&&◌, Bool, true, false, not, int_lt}
use Rattle.std.proofs.Common.{List, [], ◌∷◌, ◌++◌, length, length-append, take, drop, Option, Some, None}
use Rattle.std.proofs.Common.{IsSome, refl, sym, ap, subst, ◌∙◌, inl, inr, arith, rules, T}
use Rattle.std.specs.Prelude.{◌↔◌}
use Rattle.std.specs.List.{list_all, insert}
use Rattle.std.specs.Option.{option_map_or}
use Rattle.std.specs.Map.{lookup}
use Rattle.std.proofs.lemmas.Bool.{cases_lt, and_from, and_parts, or_cases, not-true, both_ways, eq-eqb, eqb-true, leb-true, le-leb, or_right}
use Rattle.std.proofs.lemmas.Bool.Decides.{eqb_tells}
use Rattle.std.proofs.lemmas.Int.{ints, by_lt_z}
use Rattle.plan_types.specs.Instance.{Instance, IsInstance, request_with, partner_at, pickup_at}
use Rattle.plan_types.specs.Laws.{NamedRequestsAreFound, RequestsAreStoredByName}
use Rattle.plan_types.specs.Request.{request_name, stop_in, partner_in, pickup_in}
use Rattle.plan_types.specs.declared.requests.Request.{Request}
use Rattle.plan_types.specs.declared.requests.Request.TheVariants.{Single, Pair}
use Rattle.plan_types.specs.declared.requests.Kind.{Kind}
use Rattle.plan_types.specs.declared.requests.Kind.TheVariants.{LiLim, Vrp}
use Rattle.route_sched.specs.Route.{place}
use Rattle.route_sched.specs.Schedule.{start, load}
use Rattle.route_sched.proofs.Steps.{distance-self}
use Rattle.plan_audit.specs.Passes.{has, has_whole_pairs, picks_up_first, keeps_capacity, keeps_windows, is_back_in_time, keeps_times, feasible_alone}
use Rattle.plan_audit.proofs.TestLemmas.{range_true, true_range}
use Rattle.move_ops.specs.WholePairs.{are_paired}
use Rattle.slack_tables.specs.Insertion.{KeepsLimits, ArePlaces, inserted}
use Rattle.move_ops.proofs.OccurrenceLemmas.{none_some, some_same, times, one_here, none_here, times-append, times_split}
use Rattle.move_ops.proofs.InsertionLemmas.{numbers_of, times_put, times_inserted, in_numbers}

-- ---- tests of all items
pub had_often : (ns : List ℕ) (n : ℕ) → has ns n ≡ true → 1 ≤ times n ns
had_often [] n had = absurd (let h : false ≡ true = had in cc)
had_often (m ∷ ns) n had = elim (eqb_tells n m) [
  | inl t ↦ (let e = one_here n m t.1 in omega arith)
  | inr t ↦ (let e = none_here n m t.0 in let h = had_often ns n (rw t.0 at had) in omega arith)
]

pub often_had : (ns : List ℕ) (n : ℕ) → 1 ≤ times n ns → has ns n ≡ true
often_had [] n some = absurd (omega arith)
often_had (m ∷ ns) n some = elim (eqb_tells n m) [
  | inl t ↦ rw t.0 refl
  | inr t ↦ (let e = none_here n m t.0 in rw t.0 (often_had ns n (omega arith)))
]

pub all_by_times : (test : ℕ → Bool) (ns : List ℕ) → ((n : ℕ) → 1 ≤ times n ns → test n ≡ true) → list_all test ns ≡ true
all_by_times test [] each = refl
all_by_times test (n ∷ ns) each =
    and_from (test n) (list_all test ns) (each n (let e = one_here n n refl in omega arith)) (all_by_times test ns (λ m some. each m (omega arith)))

pub times_by_all : (test : ℕ → Bool) (ns : List ℕ) (n : ℕ) → list_all test ns ≡ true → 1 ≤ times n ns → test n ≡ true
times_by_all test [] n all some = absurd (omega arith)
times_by_all test (m ∷ ns) n all some =
    let both = and_parts (test m) (list_all test ns) all in
    elim (eqb_tells n m) [
      | inl t ↦ subst (λ k. test k ≡ true) (sym t.1) both.0
      | inr t ↦ (let e = none_here n m t.0 in times_by_all test ns n both.1 (omega arith))
    ]

-- ---- statements about an optional number
pub there_whole : (ns : List ℕ) (o : Option ℕ) → ((m : ℕ) → o ≡ Some m → has ns m ≡ true) → option_map_or (has ns) o true ≡ true
there_whole ns None each = refl
there_whole ns (Some m) each = each m refl

pub whole_there : (ns : List ℕ) (o : Option ℕ) (m : ℕ) → o ≡ Some m → option_map_or (has ns) o true ≡ true → has ns m ≡ true
whole_there ns o m is whole = rw is at whole

pub none_ahead : (ns : List ℕ) (o : Option ℕ) → ((m : ℕ) → o ≡ Some m → times m ns ≡ 0) → not (option_map_or (has ns) o false) ≡ true
none_ahead ns None each = refl
none_ahead ns (Some m) each = by (has ns m) refl
  where
    by : (b : Bool) → has ns m ≡ b → not b ≡ true
    by false e = refl
    by true e = (let h = had_often ns m e in let none = each m refl in absurd (omega arith))

pub ahead_none : (ns : List ℕ) (o : Option ℕ) (m : ℕ) → o ≡ Some m → not (option_map_or (has ns) o false) ≡ true → times m ns ≡ 0
ahead_none ns o m is clear = elim (cases_lt 0 (times m ns)) [
  | inl some ↦
      (let h = often_had ns m (omega arith) in
      let k : not (has ns m) ≡ true = rw is at clear in
      absurd (both_ways (has ns m) (not-true (has ns m) k) h))
  | inr none ↦ omega arith
]

-- ---- limits of load and time
above_not : (b : Bool) → not b ≡ true → T b → ⊥
above_not true h t = let k : false ≡ true = h in cc
above_not false h t = t

module _ (p : Instance) (route : List ℕ) where
  abbrev keeps : Bool
  keeps = keeps_capacity p route && keeps_times p.kind p route

  timely : (kind : Kind) → p.kind ≡ kind → keeps_times p.kind p route ≡ true → kind ≡ LiLim → (keeps_windows p route ≡ true) × (is_back_in_time p route ≡ true)
  timely Vrp is kept timed = absurd (let h : Vrp ≡ LiLim = timed in cc)
  timely LiLim is kept timed = and_parts (keeps_windows p route) (is_back_in_time p route) (subst (λ k. keeps_times k p route ≡ true) is kept)

  at_most : (x : ℕ) → not (int_lt (pos p.capacity) (load p route x)) ≡ true → load p route x ≤ℤ pos p.capacity
  at_most x h = by (load p route x) h
    where
      by : (l : ℤ) → not (int_lt (pos p.capacity) l) ≡ true → l ≤ℤ pos p.capacity
      by l t = by_lt_z {P = l ≤ℤ pos p.capacity} (pos p.capacity) l (λ above. absurd (above_not (int_lt (pos p.capacity) l) t (above.lt))) (λ le. le)

  -- the conditions of the limits, if an empty route is back in time
  pub limits_kept : (p.kind ≡ LiLim → length route ≡ 0 → start p route (length route + 1) ≤ p.depot.latest) → keeps ≡ true → KeepsLimits p route
  limits_kept idle kept =
      let both = and_parts (keeps_capacity p route) (keeps_times p.kind p route) kept in
      record {
        load = λ i from to. at_most i (range_true (λ i. not (int_lt (pos p.capacity) (load p route i))) 1 (length route) both.0 i from (omega arith));
        window = λ lilim i from to.
            leb-true (start p route i) (place p route i).latest
            (range_true (λ i. nat_le (start p route i) (place p route i).latest) 1 (length route)
            (timely p.kind refl both.1 lilim).0 i from (omega arith));
        return = λ lilim.
            elim (or_cases (eqb (length route) 0) (nat_le (start p route (length route + 1)) p.depot.latest)
            (timely p.kind refl both.1 lilim).1) [
              | inl e ↦ idle lilim (eqb-true (length route) 0 e)
              | inr e ↦ leb-true (start p route (length route + 1)) p.depot.latest e
            ];
      }

  pub kept_limits : KeepsLimits p route → keeps ≡ true
  kept_limits limits = and_from (keeps_capacity p route) (keeps_times p.kind p route) capacity (times_of p.kind refl)
    where
      below_by : (l : ℤ) → l ≤ℤ pos p.capacity → (b : Bool) → int_lt (pos p.capacity) l ≡ b → not b ≡ true
      below_by l le false e = refl
      below_by l le true e = (let above : pos p.capacity <ℤ l = record { lt = subst T (sym e) tt } in absurd (omega (arith, ints)))

      below : (l : ℤ) → l ≤ℤ pos p.capacity → not (int_lt (pos p.capacity) l) ≡ true
      below l le = below_by l le (int_lt (pos p.capacity) l) refl

      capacity : keeps_capacity p route ≡ true
      capacity =
          true_range (λ i. not (int_lt (pos p.capacity) (load p route i))) 1 (length route)
          (λ i from to. below (load p route i) (limits.load i from (omega arith)))

      times_of : (kind : Kind) → p.kind ≡ kind → keeps_times kind p route ≡ true
      times_of Vrp is = refl
      times_of LiLim is =
          and_from (keeps_windows p route) (is_back_in_time p route)
          (true_range (λ i. nat_le (start p route i) (place p route i).latest) 1 (length route)
          (λ i from to. le-leb (start p route i) (place p route i).latest (limits.window is i from (omega arith))))
          (or_right (eqb (length route) 0) (nat_le (start p route (length route + 1)) p.depot.latest)
          (le-leb (start p route (length route + 1)) p.depot.latest (limits.return is)))

-- ---- pairs
pub partner_numbers : (q : Request) (n m : ℕ) → partner_in n q ≡ Some m → 1 ≤ times m (numbers_of q)
partner_numbers (Single s) n m is = absurd (none_some m is)
partner_numbers (Pair a b) n m is = elim (eqb_tells a.number n) [
  | inl t ↦ (let first : Some b.number ≡ Some m = rw t.0 at is in let e = one_here m b.number (sym (some_same b.number m first)) in omega arith)
  | inr t ↦ elim (eqb_tells b.number n) [
    | inl u ↦ (let first : Some a.number ≡ Some m = rw (t.0, u.0) at is in let e = one_here m a.number (sym (some_same a.number m first)) in omega arith)
    | inr u ↦ absurd (let h : None ≡ Some m = rw (t.0, u.0) at is in none_some m h)
  ]
]

-- the pickup of a request's stop is the request's first stop
abbrev IsPickupOf : Request → ℕ → ℕ → Type 0
IsPickupOf (Single s) n m = ⊥
IsPickupOf (Pair a b) n m = (b.number ≡ n) × (a.number ≡ m) × (eqb a.number n ≡ false)

pickup_first : (q : Request) (n m : ℕ) → pickup_in n q ≡ Some m → IsPickupOf q n m
pickup_first (Single s) n m is = none_some m is
pickup_first (Pair a b) n m is = elim (eqb_tells a.number n) [
  | inl t ↦ absurd (let h : None ≡ Some m = rw t.0 at is in none_some m h)
  | inr t ↦ elim (eqb_tells b.number n) [
    | inl u ↦ (let first : Some a.number ≡ Some m = rw (t.0, u.0) at is in (u.1, some_same a.number m first, t.0))
    | inr u ↦ absurd (let h : None ≡ Some m = rw (t.0, u.0) at is in none_some m h)
  ]
]

module _ (p : Instance) where
  -- inserting a stop at an index keeps each pickup first, if no delivery of it comes before and no pickup of it
  -- comes after
  first_put : (m k : ℕ) (ns : List ℕ) → picks_up_first p ns ≡ true → ((n : ℕ) → 1 ≤ times n (take k ns) → pickup_at p n ≡ Some m → ⊥)
      → ((q : ℕ) → pickup_at p m ≡ Some q → times q (drop k ns) ≡ 0) → picks_up_first p (take k ns ++ m ∷ drop k ns) ≡ true
  first_put m zero ns first before following =
      and_from (not (option_map_or (has ns) (pickup_at p m) false)) (picks_up_first p ns) (none_ahead ns (pickup_at p m) following) first
  first_put m (suc k) [] first before following =
      and_from (not (option_map_or (has []) (pickup_at p m) false)) true (none_ahead [] (pickup_at p m) (λ q is. refl)) refl
  first_put m (suc k) (n ∷ ns) first before following =
      let both = and_parts (not (option_map_or (has ns) (pickup_at p n) false)) (picks_up_first p ns) first in
      and_from (not (option_map_or (has (take k ns ++ m ∷ drop k ns)) (pickup_at p n) false)) (picks_up_first p (take k ns ++ m ∷ drop k ns))
      (none_ahead (take k ns ++ m ∷ drop k ns) (pickup_at p n) (λ q is. none_there q is (ahead_none ns (pickup_at p n) q is both.0)))
      (first_put m k ns both.1 (λ u some. before u (omega arith)) following)
    where
      none_there : (q : ℕ) → pickup_at p n ≡ Some q → times q ns ≡ 0 → times q (take k ns ++ m ∷ drop k ns) ≡ 0
      none_there q is none =
          let e = times-append q (take k ns) (m ∷ drop k ns) in
          let f = times_split q k ns in
          elim (eqb_tells q m) [
            | inl t ↦ absurd (before n (let h = one_here n n refl in omega arith) (is ∙ ap Some t.1))
            | inr t ↦ (let g = none_here q m t.0 in omega arith)
          ]

-- if a stop that is not in a list is inserted at an index, the rest of the new list after this index does not
-- have the stop
drop_past : (m k c : ℕ) (ns : List ℕ) → k ≤ length ns → k < c → times m ns ≡ 0 → times m (drop c (take k ns ++ m ∷ drop k ns)) ≡ 0
drop_past m k zero ns within past none = absurd (omega arith)
drop_past m zero (suc c) ns within past none = let f = times_split m c ns in omega arith
drop_past m (suc k) (suc c) [] within past none = absurd (omega arith)
drop_past m (suc k) (suc c) (n ∷ ns) within past none = drop_past m k c ns (omega arith) (omega arith) (omega arith)

module _ (found : NamedRequestsAreFound) (stored : RequestsAreStoredByName) (p : Instance) (valid : IsInstance p) where
  -- if m is the pickup of n, then n is the partner of m
  pickup_partner : (n m : ℕ) → pickup_at p n ≡ Some m → partner_at p m ≡ Some n
  pickup_partner n m is = by (request_with p n) refl
    where
      in_request : (q : Request) → request_with p n ≡ Some q → IsPickupOf q n m → partner_at p m ≡ Some n
      in_request (Single s) at reported = absurd reported
      in_request (Pair a b) at reported =
          let some : IsSome (stop_in m (Pair a b)) = rw (eq-eqb a.number m reported.1) (search rules) in
          let partner : partner_in m (Pair a b) ≡ Some b.number = rw (eq-eqb a.number m reported.1) refl in
          (found p m (request_name (Pair a b)) (Pair a b) valid (stored p n (Pair a b) valid at) some).partner ∙ (partner ∙ ap Some reported.0)

      by : (o : Option Request) → request_with p n ≡ o → partner_at p m ≡ Some n
      by None e = absurd (let h : None ≡ Some m = rw e at is in none_some m h)
      by (Some q) e = in_request q e (pickup_first q n m (let h : pickup_in n q ≡ Some m = rw e at is in h))

  module _ (name : ℕ) (r : Request) (named : lookup (nat_eq name) p.requests ≡ Some r) (old : List ℕ)
      (free : (n : ℕ) → 1 ≤ times n (numbers_of r) → times n old ≡ 0) where
    partner_own : (n : ℕ) → 1 ≤ times n (numbers_of r) → partner_at p n ≡ partner_in n r
    partner_own n some = (found p n name r valid named (in_numbers n r some)).partner

    pickup_own : (n : ℕ) → 1 ≤ times n (numbers_of r) → pickup_at p n ≡ pickup_in n r
    pickup_own n some = (found p n name r valid named (in_numbers n r some)).pickup

    -- no stop of the old route has a stop of the request as its pickup
    apart : (n m : ℕ) → 1 ≤ times n old → 1 ≤ times m (numbers_of r) → pickup_at p n ≡ Some m → ⊥
    apart n m here own is =
        let partner = pickup_partner n m is in
        let also = partner_numbers r m n (sym (partner_own m own) ∙ partner) in
        omega arith

    whole_new : (new : List ℕ) → ((n : ℕ) → times n new ≡ times n old + times n (numbers_of r)) → has_whole_pairs p old ≡ true → has_whole_pairs p new ≡ true
    whole_new new each whole =
        all_by_times (λ n. option_map_or (has new) (partner_at p n) true) new
        (λ n some. there_whole new (partner_at p n) (λ m is. often_had new m (partner_there n some m is)))
      where
        partner_there : (n : ℕ) → 1 ≤ times n new → (m : ℕ) → partner_at p n ≡ Some m → 1 ≤ times m new
        partner_there n some m is = elim (cases_lt 0 (times n (numbers_of r))) [
          | inl own ↦ (let h = partner_numbers r n m (sym (partner_own n own) ∙ is) in let e = each m in omega arith)
          | inr other ↦ (
              let h =
              had_often old m
              (whole_there old (partner_at p n) m is
              (times_by_all (λ n. option_map_or (has old) (partner_at p n) true) old n whole (omega arith))) in
              omega arith)
        ]

insert_some : (ns : List ℕ) (k m : ℕ) → length (insert ns k m) ≡ 0 → ⊥
insert_some ns k m none =
    let e = length-append (take k ns) (m ∷ drop k ns) in
    let f : length (m ∷ drop k ns) ≡ length (drop k ns) + 1 = omega arith in
    omega arith

-- ---- one request inserted
module _ (found : NamedRequestsAreFound) (stored : RequestsAreStoredByName) (p : Instance) (valid : IsInstance p) where
  first_new : (name : ℕ) (r : Request) → lookup (nat_eq name) p.requests ≡ Some r → (old : List ℕ)
      → ((n : ℕ) → 1 ≤ times n (numbers_of r) → times n old ≡ 0) → (i j : ℕ)
      → ArePlaces r (length old) i j → picks_up_first p old ≡ true → picks_up_first p (inserted r i j old) ≡ true
  first_new name (Single s) named old free i j places first =
      let own : 1 ≤ times s.number (numbers_of (Single s)) = (let e = one_here s.number s.number refl in omega arith) in
      first_put p s.number (i - 1) old first
      (λ n some is. apart found stored p valid name (Single s) named old free n s.number (let f = times_split n (i - 1) old in omega arith) own is)
      (λ q is. absurd (none_some q (sym (pickup_own found stored p valid name (Single s) named old free s.number own) ∙ is)))
  first_new name (Pair a b) named old free i j places first =
      let start : 1 ≤ times a.number (numbers_of (Pair a b)) = (let e = one_here a.number a.number refl in omega arith) in
      let finish : 1 ≤ times b.number (numbers_of (Pair a b)) = (let e = one_here b.number b.number refl in omega arith) in
      let at_start : pickup_in a.number (Pair a b) ≡ None = rw (eq-eqb a.number a.number refl) refl in
      let none_start : pickup_at p a.number ≡ None = pickup_own found stored p valid name (Pair a b) named old free a.number start ∙ at_start in
      let begun : picks_up_first p (insert old (i - 1) a.number) ≡ true =
      first_put p a.number (i - 1) old first
      (λ n some is. apart found stored p valid name (Pair a b) named old free n a.number (let f = times_split n (i - 1) old in omega arith) start is)
      (λ q is. absurd (none_some q (sym none_start ∙ is))) in
      first_put p b.number (j - 1) (insert old (i - 1) a.number) begun
      (λ n some is. elim (eqb_tells n a.number) [
        | inl t ↦ none_some b.number (sym none_start ∙ (ap (pickup_at p) (sym t.1) ∙ is))
        | inr t ↦ (
            let e = none_here n a.number t.0 in
            let f = times_split n (j - 1) (insert old (i - 1) a.number) in
            let g = times_put n old i a.number in
            apart found stored p valid name (Pair a b) named old free n b.number (omega arith) finish is)
      ])
      (λ q is. (
      let reported = pickup_first (Pair a b) b.number q (sym (pickup_own found stored p valid name (Pair a b) named old free b.number finish) ∙ is) in
      subst (λ (m : ℕ). times m (drop (j - 1) (insert old (i - 1) a.number)) ≡ 0) reported.1
      (drop_past a.number (i - 1) (j - 1) old (omega arith) (omega arith) (free a.number start))))

  module _ (name : ℕ) (r : Request) (named : lookup (nat_eq name) p.requests ≡ Some r) (old : List ℕ)
      (free : (n : ℕ) → 1 ≤ times n (numbers_of r) → times n old ≡ 0) (i j : ℕ) (places : ArePlaces r (length old) i j)
      (feasible : feasible_alone p old ≡ true) where
    pairs : (has_whole_pairs p old ≡ true) × (picks_up_first p old ≡ true)
    unfolding feasible_alone
    pairs =
        let one = and_parts (has_whole_pairs p old) (picks_up_first p old && (keeps_capacity p old && keeps_times p.kind p old)) feasible in
        (one.0, (and_parts (picks_up_first p old) (keeps_capacity p old && keeps_times p.kind p old) one.1).0)

    whole : has_whole_pairs p (inserted r i j old) ≡ true
    whole = whole_new found stored p valid name r named old free (inserted r i j old) (λ n. times_inserted n r i j old) pairs.0

    first : picks_up_first p (inserted r i j old) ≡ true
    first = first_new name r named old free i j places pairs.1

    pub some_new : length (inserted r i j old) ≡ 0 → ⊥
    some_new = by r
      where
        by : (q : Request) → length (inserted q i j old) ≡ 0 → ⊥
        by (Single s) = insert_some old (i - 1) s.number
        by (Pair a b) = insert_some (insert old (i - 1) a.number) (j - 1) b.number

    -- the new route is feasible alone exactly when it keeps the limits
    pub fits : KeepsLimits p (inserted r i j old) → feasible_alone p (inserted r i j old) ≡ true
    unfolding feasible_alone
    fits limits =
        and_from (has_whole_pairs p (inserted r i j old)) (picks_up_first p (inserted r i j old) && keeps p (inserted r i j old)) whole
        (and_from (picks_up_first p (inserted r i j old)) (keeps p (inserted r i j old)) first (kept_limits p (inserted r i j old) limits))

-- a route that is feasible alone passes the tests of the limits
kept_alone : (p : Instance) (route : List ℕ) → feasible_alone p route ≡ true → keeps p route ≡ true
unfolding feasible_alone
kept_alone p route feasible =
    let one = and_parts (has_whole_pairs p route) (picks_up_first p route && (keeps_capacity p route && keeps_times p.kind p route)) feasible in
    (and_parts (picks_up_first p route) (keeps_capacity p route && keeps_times p.kind p route) one.1).1

-- ---- a vehicle that stays at the depot
idle_start : (p : Instance) → p.depot.service ≡ 0 → start p [] 1 ≡ p.depot.earliest
unfolding start place
idle_start p none = let e = distance-self p.depot in omega arith

pub idle_limits : (p : Instance) → IsInstance p → (route : List ℕ) → length route ≡ 0 → start p route (length route + 1) ≤ p.depot.latest
idle_limits p valid [] none = let e = idle_start p (valid.depot.service) in let w = valid.depot.visit.window in omega arith
idle_limits p valid (n ∷ ns) none = absurd (omega arith)

-- a route that is feasible alone keeps the limits
pub route_limits : (p : Instance) → IsInstance p → (route : List ℕ) → feasible_alone p route ≡ true → KeepsLimits p route
route_limits p valid route feasible = limits_kept p route (λ lilim none. idle_limits p valid route none) (kept_alone p route feasible)

-- ---- a route is judged by its pairs and by the limits
not_both : (a x y k : Bool) → a ≡ (x && y) → a ≡ false → a ≡ (x && (y && k))
not_both a false y k is none = none
not_both a true false k is none = none
not_both a true true k is none = absurd (cc)

unpaired : (p : Instance) (route : List ℕ) (a : Bool) → a ≡ are_paired p route → a ≡ false → a ≡ feasible_alone p route
unfolding feasible_alone
unpaired p route a is none = not_both a (has_whole_pairs p route) (picks_up_first p route) (keeps p route) is none

whole_alone : (p : Instance) (route : List ℕ) → has_whole_pairs p route ≡ true → picks_up_first p route ≡ true → KeepsLimits p route
    → feasible_alone p route ≡ true
unfolding feasible_alone
whole_alone p route whole first limits =
    and_from (has_whole_pairs p route) (picks_up_first p route && keeps p route) whole
    (and_from (picks_up_first p route) (keeps p route) first (kept_limits p route limits))

-- if the limits are kept, the pairs decide
pub within_limits : (p : Instance) → (route : List ℕ) (a b : Bool) → a ≡ are_paired p route → b ≡ true
    → (b ≡ true) ↔ KeepsLimits p route → a ≡ feasible_alone p route
within_limits p route true b is kept limits =
    let both = and_parts (has_whole_pairs p route) (picks_up_first p route) (sym is) in
    sym (whole_alone p route both.0 both.1 (limits.0 kept))
within_limits p route false b is kept limits = unpaired p route false is refl

-- if the limits are not kept, the route is not feasible
pub outside_limits : (p : Instance) → IsInstance p → (route : List ℕ) (b : Bool) → b ≡ false → (b ≡ true) ↔ KeepsLimits p route → false ≡ feasible_alone p route
outside_limits p valid route b broken limits = by (feasible_alone p route) refl
  where
    by : (y : Bool) → feasible_alone p route ≡ y → false ≡ feasible_alone p route
    by false f = sym f
    by true f = absurd (let h : b ≡ true = limits.1 (route_limits p valid route f) in both_ways b broken h)

-- if the pairs are whole and picked up first, the limits decide
pub paired : (p : Instance) → IsInstance p → (route : List ℕ) (b : Bool) → are_paired p route ≡ true → (b ≡ true) ↔ KeepsLimits p route
    → b ≡ feasible_alone p route
paired p valid route true pairs limits = within_limits p route true true (sym pairs) refl limits
paired p valid route false pairs limits = outside_limits p valid route false refl limits

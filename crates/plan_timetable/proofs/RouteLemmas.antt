-- The limits of a route that is feasible alone.
use Rattle.std.proofs.Common.{
  ◌≡◌,
  ℕ,
  zero,
  suc,
  ◌+◌,
  ◌<◌,
  ◌≤◌,
  ◌≤ℤ◌,
  ℤ,
  pos,
  int_lt,
  ◌&&◌,
  Bool,
  true,
  false,
  not,
  T,
  List,
  length,
  slice_index_or,
  refl,
  sym,
  ap,
  subst,
  ◌∙◌,
  arith,
  inl,
  inr,
  nat_le,
  eqb,
}
use Rattle.std.specs.List.{list_all, range_with_len}
use Rattle.std.proofs.lemmas.Bool.{and_parts, cases_lt, eqb-true, leb-true, or_cases}
use Rattle.std.proofs.lemmas.Int.{by_lt_z}
use Rattle.std.proofs.lemmas.List.FromFn.{get_or-map-range_with_len, length-map-range_with_len}
use Rattle.plan_types.specs.Instance.{Instance}
use Rattle.plan_types.specs.declared.requests.Kind.{Kind}
use Rattle.plan_types.specs.declared.requests.Kind.TheVariants.{LiLim, Vrp}
use Rattle.route_sched.specs.Route.{place}
use Rattle.route_sched.specs.Schedule.{load, start}
use Rattle.plan_audit.specs.Passes.{feasible_alone, has_whole_pairs, is_back_in_time, keeps_capacity, keeps_times, keeps_windows, picks_up_first}
use Rattle.slack_tables.specs.Insertion.{KeepsLimits}
use Rattle.plan_explain.specs.Tables.{stop_visit_after, stop_visits_of}
use Rattle.plan_explain.specs.declared.stop_visits.StopVisit.{StopVisit}
use Rattle.plan_timetable.specs.Timed.{IsRowIn}

-- ---- tests of all places
range_true : (test : ℕ → Bool) (a n : ℕ) → list_all test (range_with_len a n) ≡ true → (i : ℕ) → a ≤ i → i < a + n → test i ≡ true
range_true test a zero all i from to = absurd (omega arith)
range_true test a (suc n) all i from to =
    let both = and_parts (test a) (list_all test (range_with_len (a + 1) n)) all in
    elim (cases_lt a i) [
      | inl later ↦ range_true test (a + 1) n both.1 i (omega arith) (omega arith)
      | inr here ↦ (let same : a ≡ i = omega arith in subst (λ j. test j ≡ true) same both.0)
    ]

above_not : (b : Bool) → not b ≡ true → T b → ⊥
above_not true h t = let k : false ≡ true = h in cc
above_not false h t = t

at_most : (most l : ℤ) → not (int_lt most l) ≡ true → l ≤ℤ most
at_most most l t = by_lt_z {P = l ≤ℤ most} most l (λ above. absurd (above_not (int_lt most l) t above.lt)) (λ le. le)

timely : (p : Instance) (route : List ℕ) (kind : Kind) → p.kind ≡ kind → keeps_times p.kind p route ≡ true → kind ≡ LiLim → (keeps_windows p route ≡ true) × (is_back_in_time p route ≡ true)
timely p route Vrp is kept timed = absurd (let h : Vrp ≡ LiLim = timed in cc)
timely p route LiLim is kept timed = and_parts (keeps_windows p route) (is_back_in_time p route) (subst (λ k. keeps_times k p route ≡ true) is kept)

kept_alone : (p : Instance) (route : List ℕ) → feasible_alone p route ≡ true → (keeps_capacity p route && keeps_times p.kind p route) ≡ true
unfolding feasible_alone
kept_alone p route feasible =
    let one = and_parts (has_whole_pairs p route) (picks_up_first p route && (keeps_capacity p route && keeps_times p.kind p route)) feasible in
    (and_parts (picks_up_first p route) (keeps_capacity p route && keeps_times p.kind p route) one.1).1

-- A used route that is feasible alone keeps the capacity and the windows.
pub kept_limits : (p : Instance) (route : List ℕ) → 0 < length route → feasible_alone p route ≡ true → KeepsLimits p route
kept_limits p route used feasible =
    let both = and_parts (keeps_capacity p route) (keeps_times p.kind p route) (kept_alone p route feasible) in
    record {
      load = λ i from to. at_most (pos p.capacity) (load p route i) (range_true (λ i. not (int_lt (pos p.capacity) (load p route i))) 1 (length route) both.0 i from (omega arith));
      window = λ lilim i from to.
          leb-true (start p route i) (place p route i).latest
          (range_true (λ i. nat_le (start p route i) (place p route i).latest) 1 (length route) (timely p route p.kind refl both.1 lilim).0 i from
          (omega arith));
      return = λ lilim. elim (or_cases (eqb (length route) 0) (nat_le (start p route (length route + 1)) p.depot.latest) (timely p route p.kind refl both.1 lilim).1) [
        | inl none ↦ absurd (let e = eqb-true (length route) 0 none in omega arith)
        | inr back ↦ leb-true (start p route (length route + 1)) p.depot.latest back
      ];
    }

-- The row of each visit of a route is the row of a stop or of the return.
pub row_in : (p : Instance) (route : List ℕ) (visits : List StopVisit) (k : ℕ) (d : StopVisit) → visits ≡ stop_visits_of p route → k < length visits → IsRowIn p route (slice_index_or visits k d).row
row_in p route visits k d are lt =
    let few : length visits ≡ length route + 1 = ap length are ∙ length-map-range_with_len (stop_visit_after p route) 0 (length route + 1) in
    let visit : slice_index_or visits k d ≡ stop_visit_after p route k = ap (λ hs. slice_index_or hs k d) are
    ∙ get_or-map-range_with_len (stop_visit_after p route) 0 (length route + 1) k k d (omega (arith, few)) (omega arith) in
    subst (λ h. IsRowIn p route h.row) (sym visit) (record { within = omega (arith, few); latest = refl })

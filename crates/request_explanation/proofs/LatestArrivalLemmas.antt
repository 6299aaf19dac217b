-- If a vehicle arrives anywhere later than the latest arrival, its route has a violation of at least 1.
use Rattle.std.proofs.Common.{◌≡◌, ◌∙◌, ℕ, ◌⊎◌, inl, inr, true, ◌+◌, ◌-◌, ◌<◌, ◌≤◌, ◌||◌, max, min, ℤ, pos, negsuc}
use Rattle.std.proofs.Common.{List, [], ◌∷◌, ◌++◌, length, drop, get_or, Option, Some, None, not, refl, sym, take, ap, subst, arith}
use Rattle.std.specs.Prelude.{int_lt, unsigned_abs, ◌==◌}
use Rattle.std.specs.List.{list_any}
use Rattle.std.specs.Option.{option_or}
use Rattle.std.proofs.Math.Bool.{or-true}
use Rattle.std.proofs.lemmas.Bool.{and_parts, cases_Bool, cases_lt, false≢true, lt-ltb, ltb-true}
use Rattle.std.proofs.lemmas.List.{drop_more}
use Rattle.std.proofs.lemmas.List.Folds.{list_any-append}
use Rattle.plan_types.specs.Instance.{Instance}
use Rattle.plan_types.specs.declared.requests.Kind.TheVariants.{LiLim}
use Rattle.plan_explain.specs.declared.rows.Row.{Row}
use Rattle.request_explanation.specs.LatestArrivals.{IsLatestArrival, rows_from}
use Rattle.request_explanation.specs.LimitViolations.{excess_of, is_heavy, is_late, lateness_in, violation_in, violation_of, overload_in}
use Rattle.request_explanation.specs.MovedRows.{moved_from, moved_row}
use Rattle.request_explanation.specs.declared.limit_violations.LimitViolation.{LimitViolation}
use Rattle.request_explanation.specs.Insertions.{IsDetour, IsNumberOf, IsTour, arrival_with, inserted_row, route_with}
use Rattle.request_explanation.specs.declared.insertions.Detour.{Detour}
use Rattle.request_explanation.specs.declared.insertions.Tour.{Tour}
use Rattle.request_explanation.proofs.InsertionLemmas.{rows_reported}

-- ---- late here, or later
late_here : (r : Row) (rows : List Row) (arrival : ℕ) (change : ℤ) → r.latest < arrival → list_any is_late (rows_from arrival change (r ∷ rows)) ≡ true
late_here r rows arrival change later = rw (lt-ltb r.latest (max (arrival + (r.arrival - r.arrival)) r.earliest) (omega (arith, later))) refl

late_next : (r q : Row) (rows : List Row) (latest arrival : ℕ) (change : ℤ) →
    ((a : ℕ) (c : ℤ) → latest < a → list_any is_late (rows_from a c (q ∷ rows)) ≡ true) → latest - (q.arrival - r.start) < arrival →
    list_any is_late (rows_from arrival change (r ∷ q ∷ rows)) ≡ true
late_next r q rows latest arrival change following later =
    let left = max (arrival + (r.arrival - r.arrival)) r.earliest in
    let comes = left + (q.arrival - r.start) in
    let same : comes + (q.arrival - q.arrival) ≡ comes = omega arith in
    let late : list_any is_late (moved_from left r.start change (q ∷ rows)) ≡ true =
    subst (λ a. list_any is_late (moved_row a change q ∷ moved_from (max a q.earliest) q.start change rows) ≡ true) same (following comes change (omega (arith, later))) in
    ap (λ b. is_late (moved_row (arrival + (r.arrival - r.arrival)) change r) || b) late ∙ or-true (is_late (moved_row (arrival + (r.arrival - r.arrival)) change r))

pub latest_next : (rows : List Row) (k latest : ℕ) (d e : Row) → k + 1 < length rows → IsLatestArrival rows (k + 1) latest →
    IsLatestArrival rows k (min (get_or rows k d).latest (latest - ((get_or rows (k + 1) e).arrival - (get_or rows k d).start)))
latest_next rows k latest d e below following = λ arrival change later.
    let r = get_or rows k d in
    let q = get_or rows (k + 1) e in
    let rest = drop (k + 1 + 1) rows in
    let two : drop (k + 1) rows ≡ q ∷ rest = drop_more rows (k + 1) e below in
    let all : drop k rows ≡ r ∷ drop (k + 1) rows = drop_more rows k d (omega arith) in
    let known : (a : ℕ) (c : ℤ) → latest < a → list_any is_late (rows_from a c (q ∷ rest)) ≡ true = λ a c more. subst (λ l. list_any is_late (rows_from a c l) ≡ true) two (following a c more) in
    subst (λ l. list_any is_late (rows_from arrival change l) ≡ true) (sym all)
    (elim (here_or_after r.latest (latest - (q.arrival - r.start)) arrival later) [
      | inl here ↦ late_here r (drop (k + 1) rows) arrival change here
      | inr there ↦ subst (λ l. list_any is_late (rows_from arrival change (r ∷ l)) ≡ true) (sym two) (late_next r q rest latest arrival change known there)
    ])
  where
    here_or_after : (x y a : ℕ) → min x y < a → (x < a) ⊎ (y < a)
    here_or_after x y a less = elim (cases_lt x a) [
      | inl first ↦ inl first
      | inr back ↦ inr (omega (arith, less, back))
    ]

-- ---- a violation is at least 1
late_excess : (rows : List Row) → list_any is_late rows ≡ true → 1 ≤ excess_of (lateness_in LiLim rows)
late_excess [] late = absurd (false≢true late)
late_excess (r ∷ rows) late = elim (cases_Bool (is_late r)) [
  | inl here ↦ rw here (let more : r.latest < r.start = ltb-true r.latest r.start here in omega (arith, more))
  | inr fine ↦ rw fine (late_excess rows (rw fine at late))
]

heavy_excess : (capacity : ℕ) (load : ℤ) → int_lt (pos capacity) load ≡ true → 1 ≤ unsigned_abs load - capacity
heavy_excess capacity (pos n) heavy = let more : capacity < n = ltb-true capacity n heavy in omega (arith, more)
heavy_excess capacity (negsuc n) heavy = absurd (false≢true heavy)

over_excess : (capacity : ℕ) (rows : List Row) → (overload_in capacity rows ≡ None) ⊎ (1 ≤ excess_of (overload_in capacity rows))
over_excess capacity [] = inl refl
over_excess capacity (r ∷ rows) = elim (cases_Bool (is_heavy capacity r)) [
  | inl here ↦ inr (rw here (heavy_excess capacity r.load (and_parts (not (r.stop == 0)) (int_lt (pos capacity) r.load) here).1))
  | inr fine ↦ rw fine (over_excess capacity rows)
]

first_excess : (a b : Option LimitViolation) → 1 ≤ excess_of a → 1 ≤ excess_of (option_or a b)
first_excess None b more = absurd (omega (arith, more))
first_excess (Some m) b more = more

pub late_missed : (p : Instance) (front following : List Row) → p.kind ≡ LiLim → list_any is_late following ≡ true → 1 ≤ excess_of (violation_in p (front ++ following))
late_missed p front following kind late =
    let rows = front ++ following in
    let all : list_any is_late rows ≡ true = list_any-append is_late front following ∙ ap (λ b. list_any is_late front || b) late ∙ or-true (list_any is_late front) in
    elim (over_excess p.capacity rows) [
      | inl none ↦ rw (none, kind) (late_excess rows all)
      | inr more ↦ first_excess (overload_in p.capacity rows) (lateness_in p.kind rows) more
    ]

-- a stop after which the vehicle arrives too late causes a violation
pub missed_reported : (p : Instance) (t : Tour) (at : ℕ) (tour : IsTour p t) (one : 1 ≤ at) (within : at ≤ length t.route.now) →
    (detour : Detour) (ways : IsDetour p t at detour) (number : ℕ) (is : IsNumberOf p t number) (d : Row) (arrival : ℕ) →
    p.kind ≡ LiLim → arrival ≡ arrival_with t detour (get_or t.rows.now (at - 1) d) → get_or t.latest_arrivals.now at 0 < arrival → 1 ≤ excess_of (violation_of p (route_with t at number))
missed_reported p t at tour one within detour ways number is d arrival kind comes later =
    let rows = t.rows.now in
    let change = t.stop.now.demand in
    let row = inserted_row (get_or rows (at - 1) d) detour.service detour.to t.stop.now in
    let before = (get_or rows at d).arrival in
    let below : at < length rows = omega (arith, within, tour.long) in
    let all : drop at rows ≡ get_or rows at d ∷ drop (at + 1) rows = drop_more rows at d below in
    let moved : moved_from arrival before change (drop at rows) ≡ rows_from arrival change (drop at rows) = ap (moved_from arrival before change) all ∙ ap (rows_from arrival change) (sym all) in
    let late : list_any is_late (row ∷ moved_from arrival before change (drop at rows)) ≡ true =
    ap (λ b. is_late row || b) (ap (list_any is_late) moved ∙ tour.latest_arrivals.each at 0 (omega arith) below arrival change later) ∙ or-true (is_late row) in
    subst (λ rs. 1 ≤ excess_of (violation_in p rs)) (rows_reported p t at tour one within detour ways number is d d row arrival refl comes)
    (late_missed p (take at rows) (row ∷ moved_from arrival before change (drop at rows)) kind late)

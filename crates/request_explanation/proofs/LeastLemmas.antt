-- A route that begins with rows that violate something violates at least as much.
use Rattle.std.proofs.Common.{◌≡◌, ◌∙◌, ℕ, ◌≤◌, ◌⊎◌, inl, inr, true, false, ◌==◌, List, [], ◌∷◌, ◌++◌, take, drop, length, Option, Some, None, refl, sym, ap}
use Rattle.std.specs.List.{insert}
use Rattle.std.specs.Option.{option_or}
use Rattle.std.proofs.lemmas.Bool.{cases_Bool}
use Rattle.std.proofs.lemmas.List.{take-append-drop}
use Rattle.plan_types.specs.Instance.{Instance}
use Rattle.plan_types.specs.declared.requests.Kind.{Kind}
use Rattle.plan_types.specs.declared.requests.Kind.TheVariants.{LiLim, Vrp}
use Rattle.route_sched.specs.Route.{stop_numbered}
use Rattle.move_ops.proofs.OccurrenceLemmas.{none_some}
use Rattle.plan_explain.specs.Tables.{rows_of}
use Rattle.plan_explain.specs.declared.rows.Row.{Row}
use Rattle.request_explanation.specs.LimitViolations.{excess_of, is_heavy, is_late, is_load, is_overload, lateness_in, violation_in, violation_of, violates_less, overload_in, time_limit}
use Rattle.request_explanation.specs.Insertions.{violations_in, least_of}
use Rattle.request_explanation.specs.declared.limit_violations.LimitViolation.{LimitViolation}
use Rattle.request_explanation.proofs.BestLemmas.{no_less, not_less_than_none}
use Rattle.request_explanation.proofs.InsertionLemmas.{late_both, over_both, rows_kept}

-- A violation that `overload_in` finds is an overload; a violation that `lateness_in` finds is not.
over_is : (capacity : ℕ) (rows : List Row) → (overload_in capacity rows ≡ None) ⊎ (is_overload (overload_in capacity rows) ≡ true)
over_is capacity [] = inl refl
over_is capacity (r ∷ rows) = elim (cases_Bool (is_heavy capacity r)) [
  | inl here ↦ inr (rw here refl)
  | inr fine ↦ rw fine (over_is capacity rows)
]

time_is : (stop : ℕ) → is_load (time_limit stop) ≡ false
time_is stop = elim (cases_Bool (stop == 0)) [
  | inl home ↦ rw home refl
  | inr away ↦ rw away refl
]

late_is : (kind : Kind) (rows : List Row) → is_overload (lateness_in kind rows) ≡ false
late_is Vrp rows = refl
late_is LiLim [] = refl
late_is LiLim (r ∷ rows) = elim (cases_Bool (is_late r)) [
  | inl here ↦ rw here (time_is r.stop)
  | inr fine ↦ rw fine (late_is LiLim rows)
]

-- a and b are the overloads of a prefix and of the remaining rows, l and k their latenesses
joined : (a b l k : Option LimitViolation) → (b ≡ None) ⊎ (is_overload b ≡ true) → is_overload l ≡ false → violates_less (option_or (option_or a b) (option_or l k)) (option_or a l) ≡ false
joined (Some m) b l k over late = no_less (is_overload (Some m)) (excess_of (Some m))
joined None None None k over late = not_less_than_none (is_overload k) (excess_of k)
joined None None (Some n) k over late = no_less (is_overload (Some n)) (excess_of (Some n))
joined None (Some m) None k over late = not_less_than_none (is_overload (Some m)) (excess_of (Some m))
joined None (Some m) (Some n) k (inl none) late = absurd (none_some m (sym none))
joined None (Some m) (Some n) k (inr heavy) late = rw (heavy, late) refl

least_in : (p : Instance) (front following : List Row) → violates_less (violation_in p (front ++ following)) (least_of (violations_in p front)) ≡ false
least_in p front following =
    let over = overload_in p.capacity front in
    let heavier = overload_in p.capacity following in
    let late = lateness_in p.kind front in
    let later = lateness_in p.kind following in
    let all : violation_in p (front ++ following) ≡ option_or (option_or over heavier) (option_or late later) =
    ap (λ o. option_or o (lateness_in p.kind (front ++ following))) (over_both p.capacity front following) ∙ ap (option_or (option_or over heavier)) (late_both p.kind front following) in
    ap (λ o. violates_less o (option_or over late)) all ∙ joined over heavier late later (over_is p.capacity following) (late_is p.kind front)

-- a stop that is inserted after these rows changes nothing before it
pub least_stays : (p : Instance) (route : List ℕ) (number m at : ℕ) → 1 ≤ m → m ≤ length route → at ≤ m →
    violates_less (violation_of p (insert route m number)) (least_of (violations_in p (take at (rows_of p route)))) ≡ false
least_stays p route number m at one within most =
    let rows = rows_of p (insert route m number) in
    let front = take at (rows_of p route) in
    let parts : rows ≡ front ++ drop at rows = sym (take-append-drop at rows) ∙ ap (λ l. l ++ drop at rows) (rows_kept p route number m (stop_numbered p number) one within refl at most) in
    ap (λ rs. violates_less (violation_in p rs) (least_of (violations_in p front))) parts ∙ least_in p front (drop at rows)

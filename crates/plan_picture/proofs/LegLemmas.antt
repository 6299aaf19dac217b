-- The legs of a route are in its line.
use Rattle.std.proofs.Common.{◌≡◌, ◌∙◌, ℕ, ◌+◌, ◌-◌, ◌<◌, true, false, not, ◌||◌, List, [], ◌∷◌, ◌++◌, length, map, zero, suc, refl, sym, ap, subst, arith, append_assoc}
use Rattle.std.specs.Prelude.{nat_eq, ◌==◌, is_some}
use Rattle.std.specs.List.{AllByRecursion, IsDistinct, list_any, range_with_len}
use Rattle.std.proofs.lemmas.Bool.{and_from}
use Rattle.std.proofs.lemmas.List.{append-nil}
use Rattle.std.proofs.lemmas.List.Elements.{recursion_from_All}
use Rattle.plan_types.specs.Instance.{Instance, stop_at}
use Rattle.route_sched.specs.Route.{IsKnownStop, place}
use Rattle.route_sched.specs.VisitList.{visit_after}
use Rattle.plan_picture.specs.DrawnStops.{is_new, kept_after, visits_of}
use Rattle.plan_picture.specs.Laws.{IsIn, LegsAreDrawn, RoutesAreKept}
use Rattle.plan_picture.specs.Map.{leg_text, legs_text, line_head, line_text}
use Rattle.plan_picture.specs.Tags.{fixed}
use Rattle.plan_picture.specs.declared.frame.Frame.{Frame}
use Rattle.plan_picture.specs.declared.tags.Tag.TheVariants as tags
use Rattle.plan_picture.proofs.KeptLemmas.{kept_new}
use Rattle.plan_picture.proofs.PartLemmas.{in_left, in_right, in_whole}

-- a number that differs from all numbers of a list differs from the one after `kept`
differs : (x n : ℕ) (kept route : List ℕ) → AllByRecursion (λ y. nat_eq x y ≡ false) (kept ++ n ∷ route) → nat_eq x n ≡ false
differs x n [] route all = all.0
differs x n (y ∷ kept) route all = differs x n kept route all.1

none_there : (kept : List ℕ) (n : ℕ) (route : List ℕ) → IsDistinct nat_eq (kept ++ n ∷ route) → list_any (λ m. m == n) kept ≡ false
unfolding IsDistinct
none_there [] n route distinct = refl
none_there (x ∷ kept) n route distinct = ap (λ b. b || list_any (λ m. m == n) kept) (differs x n kept route distinct.0) ∙ none_there kept n route distinct.1

all_kept : (p : Instance) (kept route : List ℕ) → AllByRecursion (IsKnownStop p) route → IsDistinct nat_eq (kept ++ route) → kept_after p kept route ≡ kept ++ route
all_kept p kept [] live distinct = sym (append-nil kept)
all_kept p kept (n ∷ route) live distinct =
    let new : is_new p kept n ≡ true = and_from (is_some (stop_at p n)) (not (list_any (λ m. m == n) kept)) live.0 (ap not (none_there kept n route distinct)) in
    kept_new p kept route n new
    ∙ (all_kept p (kept ++ n ∷ []) route live.1 (subst (IsDistinct nat_eq) (sym (append_assoc kept (n ∷ []) route)) distinct) ∙ append_assoc kept (n ∷ []) route)

pub routes_are_kept : RoutesAreKept
routes_are_kept p route once = all_kept p [] route (recursion_from_All (IsKnownStop p) route once.live) once.distinct

-- the leg i places after place j is in the text of the legs from place j on
legs_in : (p : Instance) (f : Frame) (route : List ℕ) (j m i : ℕ) → i < m
    → IsIn (leg_text f (place p route (j + i)) (place p route (j + i + 1))) (legs_text f (place p route j) (map (visit_after p route) (range_with_len j m)))
legs_in p f route j zero i less = absurd (omega (arith, less))
legs_in p f route j (suc m) zero less =
    let here = leg_text f (place p route j) (place p route (j + 1)) in
    let rest = legs_text f (place p route (j + 1)) (map (visit_after p route) (range_with_len (j + 1) m)) in
    let same : j ≡ j + zero = omega arith in
    subst (λ k. IsIn (leg_text f (place p route k) (place p route (k + 1))) (here ++ rest)) same (in_left here here rest (in_whole here))
legs_in p f route j (suc m) (suc i) less =
    let here = leg_text f (place p route j) (place p route (j + 1)) in
    let rest = legs_text f (place p route (j + 1)) (map (visit_after p route) (range_with_len (j + 1) m)) in
    let fewer : i < m = omega (arith, less) in
    let same : j + 1 + i ≡ j + suc i = omega arith in
    subst (λ k. IsIn (leg_text f (place p route k) (place p route (k + 1))) (here ++ rest)) same
    (in_right (leg_text f (place p route (j + 1 + i)) (place p route (j + 1 + i + 1))) here rest (legs_in p f route (j + 1) m i fewer))

pub legs_are_drawn : LegsAreDrawn
unfolding place line_text
legs_are_drawn p f broken number route k within =
    let fewer : k < length route + 1 - 0 = omega (arith, within) in
    let same : 0 + k ≡ k = omega arith in
    let leg = leg_text f (place p route k) (place p route (k + 1)) in
    let legs = legs_text f p.depot (visits_of p route) in
    let found : IsIn leg legs = subst (λ j. IsIn (leg_text f (place p route j) (place p route (j + 1))) legs) same (legs_in p f route 0 (length route + 1 - 0) k fewer) in
    in_left leg (line_head broken number ++ legs) (fixed tags.GroupEnd) (in_right leg (line_head broken number) legs found)

-- The list of trials, one place after another.
use Rattle.std.proofs.Common.{◌≡◌, ◌∙◌, ℕ, suc, ◌+◌, ◌-◌, ◌<◌, List, [], ◌∷◌, ◌++◌, map, length, ◌≤◌, zero, Bool, true, false, take, subst, Option, Some, None, refl, sym, ap, arith}
use Rattle.std.specs.List.{flat_map, insert, range_with_len}
use Rattle.plan_types.specs.Instance.{Instance}
use Rattle.plan_types.specs.declared.requests.Request.TheVariants.{Pair, Single}
use Rattle.plan_types.specs.declared.requests.Stop.{Stop}
use Rattle.route_sched.specs.Schedule.{route_length}
use Rattle.plan_explain.specs.Tables.{rows_of}
use Rattle.request_explanation.specs.LimitViolations.{violation_of, violates_less}
use Rattle.request_explanation.specs.Insertions.{violations_in, is_settled, least_of}
use Rattle.request_explanation.specs.declared.insertions.FirstViolations.{FirstViolations}
use Rattle.request_explanation.specs.declared.insertions.Tour.{Tour}
use Rattle.request_explanation.proofs.BestLemmas.{by_miss, not_better}
use Rattle.request_explanation.proofs.LeastLemmas.{least_stays}
use Rattle.move_ops.specs.Insertion.{inserted}
use Rattle.request_explanation.specs.Trials.{best_from, better, is_better, trial_of, trial_at}
use Rattle.request_explanation.specs.declared.limit_violations.LimitViolation.{LimitViolation}
use Rattle.request_explanation.specs.declared.trials.Trial.{Trial}

-- the numbers from a to before e
abbrev pub up_to : ℕ → ℕ → List ℕ
up_to a e = range_with_len a (e - a)

more_of : (a n m : ℕ) → n ≡ suc m → range_with_len a n ≡ a ∷ range_with_len (a + 1) m
more_of a n m is = ap (range_with_len a) is

pub up_more : (a e : ℕ) → a < e → up_to a e ≡ a ∷ up_to (a + 1) e
up_more a e below = more_of a (e - a) (e - (a + 1)) (omega arith)

best_both : (best : Option Trial) (ts us : List Trial) → best_from best (ts ++ us) ≡ best_from (best_from best ts) us
best_both best [] us = refl
best_both best (t ∷ ts) us = best_both (better best t) ts us

map_both : {X Y : Type 0} (f : X → Y) (xs ys : List X) → map f (xs ++ ys) ≡ map f xs ++ map f ys
map_both f [] ys = refl
map_both f (x ∷ xs) ys = ap (λ l. f x ∷ l) (map_both f xs ys)

-- the trial of a route, from its violation and its distance
pub same_trial : (p : Instance) (route : List ℕ) (i j : ℕ) (violation : Option LimitViolation) (distance : ℕ) → violation ≡ violation_of p route → distance ≡ route_length p route →
    ◌≡◌ {A = Trial} (record { violation = violation; distance = distance; pickup = i; delivery = j }) (trial_of p route i j)
same_trial p route i j violation distance misses far = rw (misses, far) refl

module _ (p : Instance) (route : List ℕ) where
  -- the trials of a single from this place on
  abbrev pub singles : Stop → ℕ → List Trial
  singles s place = map (trial_at p route (Single s)) (map (λ i. (i, i)) (up_to place (length route + 2)))

  pub single_next : (s : Stop) (best : Option Trial) (place : ℕ) → place < length route + 2 →
      best_from best (singles s place) ≡ best_from (better best (trial_at p route (Single s) (place, place))) (singles s (place + 1))
  single_next s best place below = ap (λ l. best_from best (map (trial_at p route (Single s)) (map (λ i. (i, i)) l))) (up_more place (length route + 2) below)

  module _ (a b : Stop) where
    -- the trials of a pair with the pickup at one place, and the delivery from this place on
    abbrev pub deliveries : ℕ → ℕ → List Trial
    deliveries i following = map (trial_at p route (Pair a b)) (map (λ j. (i, j)) (up_to following (length route + 3)))

    pub delivery_next : (best : Option Trial) (i following : ℕ) → following < length route + 3 →
        best_from best (deliveries i following) ≡ best_from (better best (trial_at p route (Pair a b) (i, following))) (deliveries i (following + 1))
    delivery_next best i following below = ap (λ l. best_from best (map (trial_at p route (Pair a b)) (map (λ j. (i, j)) l))) (up_more following (length route + 3) below)

    -- the best of the trials so far and one more
    pub delivery_more : (best new all : Option Trial) (i following : ℕ) → following < length route + 3 → new ≡ better best (trial_at p route (Pair a b) (i, following)) →
        best_from best (deliveries i following) ≡ all → best_from new (deliveries i (following + 1)) ≡ all
    delivery_more best new all i following below is so_far = ap (λ o. best_from o (deliveries i (following + 1))) is ∙ sym (delivery_next best i following below) ∙ so_far

    -- a delivery that is inserted into the route with the pickup
    pub trial_with : (picked : List ℕ) (i following : ℕ) → 1 ≤ following → picked ≡ inserted (Single a) i i route →
        trial_of p (insert picked (following - 1) b.number) i (following - 1 + 1) ≡ trial_at p route (Pair a b) (i, following)
    trial_with picked i following from is =
        let same : following - 1 + 1 ≡ following = omega arith in
        ap (λ r. trial_of p (insert r (following - 1) b.number) i (following - 1 + 1)) is ∙ ap (trial_of p (inserted (Pair a b) i following route) i) same

    -- if none of these n trials is better than the best trial so far, the best trial stays
    pub none_better : (best : Trial) (i following n : ℕ) → ((j : ℕ) → following ≤ j → j < following + n → is_better (trial_at p route (Pair a b) (i, j)) best ≡ false) →
        best_from (Some best) (map (trial_at p route (Pair a b)) (map (λ j. (i, j)) (range_with_len following n))) ≡ Some best
    none_better best i following zero worse = refl
    none_better best i following (suc n) worse =
        ap (λ o. best_from o (map (trial_at p route (Pair a b)) (map (λ j. (i, j)) (range_with_len (following + 1) n))))
        (kept (is_better (trial_at p route (Pair a b) (i, following)) best) refl (worse following (omega arith) (omega arith)))
        ∙ none_better best i (following + 1) n (λ j from to. worse j (omega arith) (omega arith))
      where
        kept : (t : Bool) → is_better (trial_at p route (Pair a b) (i, following)) best ≡ t → is_better (trial_at p route (Pair a b) (i, following)) best ≡ false →
            better (Some best) (trial_at p route (Pair a b) (i, following)) ≡ Some best
        kept t is fails = rw fails refl

    -- if the best trial so far violates less than the first rows do, it stays the best wherever the delivery is
    -- inserted after these rows
    pub settled : (tour : Tour) (front : FirstViolations) (best all : Option Trial) (i following : ℕ) → tour.rows.now ≡ rows_of p tour.route.now →
        tour.route.now ≡ inserted (Single a) i i route → front ≡ violations_in p (take (following - 1) tour.rows.now) →
        2 ≤ following → length tour.route.now ≡ length route + 1 → is_settled front best ≡ true → best_from best (deliveries i following) ≡ all → best ≡ all
    settled tour front None all i following rows picked found from long worse so_far = absurd (let e : false ≡ true = worse in cc)
    settled tour front (Some best) all i following rows picked found from long worse so_far =
        let before = violations_in p (take (following - 1) (rows_of p tour.route.now)) in
        let front_is : front ≡ before = found ∙ ap (λ rs. violations_in p (take (following - 1) rs)) rows in
        let less : violates_less best.violation (least_of before) ≡ true = subst (λ f. violates_less best.violation (least_of f) ≡ true) front_is worse in
        sym (none_better best i following (length route + 3 - following) (λ j at within.
        let next = trial_of p (insert tour.route.now (j - 1) b.number) i (j - 1 + 1) in
        let same : trial_at p route (Pair a b) (i, j) ≡ next = sym (trial_with tour.route.now i j (omega arith) picked) in
        let more = least_stays p tour.route.now b.number (j - 1) (following - 1) (omega arith) (omega arith) (omega arith) in
        ap (λ t. is_better t best) same ∙ not_better next best (by_miss best next (least_of before) less more))) ∙ so_far

    -- the places of a pair with the pickup at this place
    abbrev pub places_at : ℕ → List (ℕ × ℕ)
    places_at i = map (λ j. (i, j)) (range_with_len (i + 1) (length route + 2 - i))

    -- the trials of a pair with the pickup from this place on
    abbrev pub pairs : ℕ → List Trial
    pairs place = map (trial_at p route (Pair a b)) (flat_map places_at (up_to place (length route + 2)))

    pub pair_next : (best : Option Trial) (place : ℕ) → place < length route + 2 →
        best_from best (pairs place) ≡ best_from (best_from best (map (trial_at p route (Pair a b)) (places_at place))) (pairs (place + 1))
    pair_next best place below =
        ap (λ l. best_from best (map (trial_at p route (Pair a b)) (flat_map places_at l))) (up_more place (length route + 2) below)
        ∙ ap (best_from best) (map_both (trial_at p route (Pair a b)) (places_at place) (flat_map places_at (up_to (place + 1) (length route + 2))))
        ∙ best_both best (map (trial_at p route (Pair a b)) (places_at place)) (pairs (place + 1))

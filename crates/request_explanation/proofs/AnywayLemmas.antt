-- A pickup that is late, or after which the vehicle is late by more than 1, causes a violation wherever the
-- delivery is inserted after it. If a trial with this pickup is no shorter than the best trial, and violates at
-- least as much, the best trial stays.
use Rattle.std.proofs.Common.{◌≡◌, ◌∙◌, ℕ, zero, suc, inl, inr, Bool, true, ◌||◌, ◌+◌, ◌-◌, ◌<◌, ◌≤◌, min, List, []}
use Rattle.std.proofs.Common.{map, take, length, get_or, Some, false, refl, sym, ap, subst, arith}
use Rattle.std.specs.List.{insert, list_any, range_with_len}
use Rattle.std.proofs.Math.Bool.{or-true}
use Rattle.std.proofs.lemmas.Bool.{cases_lt, lt-ltb, ltb-true}
use Rattle.std.proofs.lemmas.List.Edits.{length-insert}
use Rattle.plan_types.specs.Instance.{Instance}
use Rattle.plan_types.specs.declared.requests.Kind.TheVariants.{LiLim}
use Rattle.plan_types.specs.declared.requests.Request.TheVariants.{Pair}
use Rattle.plan_types.specs.declared.requests.Stop.{Stop}
use Rattle.nint_dist.specs.Distance.{distance, DetoursSaveAtMostOne}
use Rattle.route_sched.specs.Route.{place, stop_numbered}
use Rattle.route_sched.specs.Schedule.{leg, route_length, start}
use Rattle.route_sched.proofs.Steps.{start-next}
use Rattle.plan_explain.specs.Tables.{row_after, rows_of}
use Rattle.plan_explain.specs.declared.rows.Row.{Row}
use Rattle.request_explanation.specs.LimitViolations.{excess_of, is_late, is_overload, violation_of, violates_less}
use Rattle.request_explanation.specs.Insertions.{IsDetour, IsLateAnyway, IsNumberOf, IsTour, violations_in, least_of, inserted_row, route_with}
use Rattle.request_explanation.specs.Trials.{best_from, is_better, trial_of, trial_at}
use Rattle.request_explanation.specs.declared.insertions.Detour.{Detour}
use Rattle.request_explanation.specs.declared.insertions.FirstViolations.{FirstViolations}
use Rattle.request_explanation.specs.declared.insertions.Tour.{Tour}
use Rattle.request_explanation.specs.declared.trials.Trial.{Trial}
use Rattle.request_explanation.proofs.BestLemmas.{by_distance, by_excess, by_miss, no_worse, not_better}
use Rattle.request_explanation.proofs.LatestArrivalLemmas.{late_missed}
use Rattle.request_explanation.proofs.LeastLemmas.{least_stays}
use Rattle.request_explanation.proofs.InsertionLemmas.{leg_after, length_is, place_before, place_following, place_here, row_at, row_told, start_before}
use Rattle.request_explanation.proofs.TrialLemmas.{none_better, trial_with}

-- ---- a place that is late
any_at : {X : Type 0} (test : X → Bool) (f : ℕ → X) (a n k : ℕ) → a ≤ k → k < a + n → test (f k) ≡ true → list_any test (map f (range_with_len a n)) ≡ true
any_at test f a zero k from to holds = absurd (omega arith)
any_at test f a (suc n) k from to holds = elim (cases_lt a k) [
  | inl later ↦ ap (λ b. test (f a) || b) (any_at test f (a + 1) n k (omega arith) (omega arith) holds) ∙ or-true (test (f a))
  | inr here ↦ (let same : a ≡ k = omega arith in rw (ap (λ j. test (f j)) same ∙ holds) refl)
]

pub record IsLateAt (p : Instance) (route : List ℕ) (x : ℕ) : Type 0 where
  pub from : 1 ≤ x
  pub to : x ≤ length route + 1
  pub late : (place p route x).latest < start p route x

missed_at : (p : Instance) (route : List ℕ) (x : ℕ) → p.kind ≡ LiLim → IsLateAt p route x → 1 ≤ excess_of (violation_of p route)
missed_at p route x kind late =
    let at : x - 1 + 1 ≡ x = omega (arith, late.from) in
    let here : is_late (row_after p route (x - 1)) ≡ true = lt-ltb _ _ (subst (λ j. (place p route j).latest < start p route j) (sym at) late.late) in
    late_missed p [] (rows_of p route) kind (any_at is_late (row_after p route) 0 (length route + 1) (x - 1) (omega arith) (omega (arith, late.from, late.to)) here)

-- ---- a stop after the first `at` stops, and a second one after the first m stops of the route with the first
module _ (p : Instance) (route : List ℕ) (first second at m : ℕ) (one : 1 ≤ at) (within : at ≤ length route) (later : at < m)
    (most : m ≤ length route + 1) (saves : DetoursSaveAtMostOne) where
  abbrev pickup : Stop
  pickup = stop_numbered p first

  abbrev delivery : Stop
  delivery = stop_numbered p second

  abbrev picked : List ℕ
  picked = insert route at first

  abbrev both : List ℕ
  both = insert picked m second

  long_picked : length picked ≡ length route + 1
  long_picked = length-insert route at first within

  fits : m ≤ length picked
  fits = omega (arith, long_picked, most)

  long_both : length both ≡ length route + 1 + 1
  long_both = length-insert picked m second fits ∙ ap (λ n. n + 1) long_picked

  before : (k : ℕ) → k ≤ m → place p both k ≡ place p picked k
  before k h = place_before p picked second m delivery (omega (arith, later)) fits refl k h

  -- the places of the route after the pickup: those before the delivery, and those after it
  near : (i : ℕ) → at ≤ i → i + 1 + 1 ≤ m → place p both (i + 1 + 1) ≡ place p route (i + 1)
  near i from to = before (i + 1 + 1) to ∙ place_following p route first at pickup one within refl i from

  far : (i : ℕ) → m ≤ i + 1 → place p both (i + 1 + 1 + 1) ≡ place p route (i + 1)
  far i from = place_following p picked second m delivery (omega (arith, later)) fits refl (i + 1) from ∙ place_following p route first at pickup one within refl i (omega (arith, later, from))

  -- a detour to the delivery saves at most 1
  over : start p both m + (place p picked m).service + leg p picked m ≤ start p both (m + 1 + 1) + 1
  over =
      let here = place_here p picked second m delivery (omega (arith, later)) fits refl in
      let following = place_following p picked second m delivery (omega (arith, later)) fits refl m (omega arith) in
      let to : leg p both m ≡ distance (place p picked m) delivery = rw (before m (omega arith), here) refl in
      let from : leg p both (m + 1) ≡ distance delivery (place p picked (m + 1)) = rw (here, following) refl in
      let service = ap (λ (s : Stop). s.service) (before m (omega arith)) in
      omega (arith, saves (place p picked m) (place p picked (m + 1)) delivery, start-next p both m, start-next p both (m + 1), to, from, service)

  pub no_shorter : route_length p picked ≤ route_length p both + 1
  no_shorter =
      let sum = length_is p picked second m delivery (omega (arith, later)) fits refl in
      omega (arith, sum, saves (place p picked m) (place p picked (m + 1)) delivery)

  module _ (due : ℕ → ℕ) (last : (place p route (length route + 1)).latest ≤ due (length route))
      (next : (i : ℕ) → i < length route → min (place p route (i + 1)).latest (due (i + 1) - ((place p route (i + 1)).service + leg p route (i + 1))) ≤ due i) where
    -- after the delivery: a vehicle that arrives later than the latest arrival is late at this place or a later
    -- one
    tail : (n i : ℕ) → m ≤ i + 1 → i + n ≡ length route → due i < start p both (i + 1 + 1 + 1) → (x : ℕ) × IsLateAt p both x
    tail zero i from end comes =
        let stop = ap (λ (s : Stop). s.latest) (far i from) in
        let same : i ≡ length route = omega arith in
        let limit : (place p route (i + 1)).latest ≤ due i = subst (λ j. (place p route (j + 1)).latest ≤ due j) (sym same) last in
        (i + 1 + 1 + 1, record { from = omega arith; to = omega (arith, long_both, end); late = omega (arith, stop, limit, comes) })
    tail (suc n) i from end comes = elim (cases_lt (place p route (i + 1)).latest (start p both (i + 1 + 1 + 1))) [
      | inl late ↦ (
          let stop = ap (λ (s : Stop). s.latest) (far i from) in
          (i + 1 + 1 + 1, record { from = omega arith; to = omega (arith, long_both, end); late = omega (arith, stop, late) }))
      | inr fine ↦ (
          let service = ap (λ (s : Stop). s.service) (far i from) in
          let way : leg p both (i + 1 + 1 + 1) ≡ leg p route (i + 1) = rw (far i from, far (i + 1) (omega (arith, from))) refl in
          tail n (i + 1) (omega (arith, from)) (omega (arith, end))
          (omega (arith, fine, comes, next i (omega (arith, end)), start-next p both (i + 1 + 1 + 1), service, way)))
    ]

    late_near : (i : ℕ) → at ≤ i → i + 1 + 1 ≤ m → (place p route (i + 1)).latest < start p both (i + 1 + 1) → (x : ℕ) × IsLateAt p both x
    late_near i from to late =
        let stop = ap (λ (s : Stop). s.latest) (near i from to) in
        (i + 1 + 1, record { from = omega arith; to = omega (arith, long_both, to, most); late = omega (arith, stop, late) })

    -- after the pickup: a vehicle that arrives more than 1 after the latest arrival is late at this place or a
    -- later one
    front : (n i : ℕ) → at ≤ i → i + 1 + 1 + n ≡ m → due i + 1 < start p both (i + 1 + 1) → (x : ℕ) × IsLateAt p both x
    front zero i from end comes = elim (cases_lt (place p route (i + 1)).latest (start p both (i + 1 + 1))) [
      | inl late ↦ late_near i from (omega (arith, end)) late
      | inr fine ↦ (
          let same : i + 1 + 1 ≡ m = omega (arith, end) in
          let service = ap (λ (s : Stop). s.service) (place_following p route first at pickup one within refl i from) in
          let way = leg_after p route first at pickup one within refl i from in
          let passed : start p both (i + 1 + 1) + (place p picked (i + 1 + 1)).service + leg p picked (i + 1 + 1) ≤ start p both (i + 1 + 1 + 1 + 1) + 1 =
          subst (λ x. start p both x + (place p picked x).service + leg p picked x ≤ start p both (x + 1 + 1) + 1) (sym same) over in
          tail (length route - (i + 1)) (i + 1) (omega (arith, same)) (omega (arith, same, most))
          (omega (arith, fine, comes, next i (omega (arith, same, most)), passed, service, way)))
    ]
    front (suc n) i from end comes = elim (cases_lt (place p route (i + 1)).latest (start p both (i + 1 + 1))) [
      | inl late ↦ late_near i from (omega (arith, end)) late
      | inr fine ↦ (
          let here = near i from (omega (arith, end)) in
          let service = ap (λ (s : Stop). s.service) here in
          let way : leg p both (i + 1 + 1) ≡ leg p route (i + 1) = rw (here, near (i + 1) (omega (arith, from)) (omega (arith, end))) refl in
          front n (i + 1) (omega (arith, from)) (omega (arith, end))
          (omega (arith, fine, comes, next i (omega (arith, end, most)), start-next p both (i + 1 + 1), service, way)))
    ]

    pub late_somewhere : due at + 1 < start p both (at + 1) + pickup.service + distance pickup (place p route (at + 1)) → (x : ℕ) × IsLateAt p both x
    late_somewhere comes = elim (cases_lt (at + 1) m) [
      | inl between ↦ (
          let here = before (at + 1) (omega (arith, later)) ∙ place_here p route first at pickup one within refl in
          let service = ap (λ (s : Stop). s.service) here in
          let way : leg p both (at + 1) ≡ distance pickup (place p route (at + 1)) = rw (here, near at (omega arith) (omega (arith, between))) refl in
          front (m - (at + 1 + 1)) at (omega arith) (omega (arith, between)) (omega (arith, comes, start-next p both (at + 1), service, way)))
      | inr straight ↦ (
          let same : at + 1 ≡ m = omega (arith, straight, later) in
          let here = place_here p route first at pickup one within refl in
          let service = ap (λ (s : Stop). s.service) here in
          let way : leg p picked (at + 1) ≡ distance pickup (place p route (at + 1)) = rw (here, place_following p route first at pickup one within refl at (omega arith)) refl in
          let passed : start p both (at + 1) + (place p picked (at + 1)).service + leg p picked (at + 1) ≤ start p both (at + 1 + 1 + 1) + 1 =
          subst (λ x. start p both x + (place p picked x).service + leg p picked x ≤ start p both (x + 1 + 1) + 1) (sym same) over in
          tail (length route - at) at (omega (arith, same)) (omega (arith, within)) (omega (arith, comes, passed, service, way)))
    ]

-- ---- what the code finds
module _ (p : Instance) (t : Tour) (at : ℕ) (tour : IsTour p t) (one : 1 ≤ at) (within : at ≤ length t.route.now) (detour : Detour)
    (ways : IsDetour p t at detour) (number : ℕ) (is : IsNumberOf p t number) (saves : DetoursSaveAtMostOne) where
  abbrev due_at : ℕ → ℕ
  due_at i = get_or t.latest_arrivals.now i 0

  last_due : (place p t.route.now (length t.route.now + 1)).latest ≤ due_at (length t.route.now)
  last_due =
      let n = length t.route.now in
      let none = row_after p t.route.now n in
      let known = ap (λ (r : Row). r.latest) (row_at p t at tour one within detour ways number is n none (omega arith)) in
      omega (arith, known, (tour.latest_arrivals.dues n 0 (omega arith) (omega (arith, tour.long))).last none (omega (arith, tour.long)))

  next_due : (i : ℕ) → i < length t.route.now →
      min (place p t.route.now (i + 1)).latest (due_at (i + 1) - ((place p t.route.now (i + 1)).service + leg p t.route.now (i + 1))) ≤ due_at i
  next_due i below =
      let none = row_after p t.route.now i in
      let here = row_at p t at tour one within detour ways number is i none (omega (arith, below)) in
      let there = row_at p t at tour one within detour ways number is (i + 1) none (omega (arith, below)) in
      let latest = ap (λ (r : Row). r.latest) here in
      let begins = ap (λ (r : Row). r.start) here in
      let comes = ap (λ (r : Row). r.arrival) there in
      omega (arith, latest, begins, comes, (tour.latest_arrivals.dues i 0 (omega arith) (omega (arith, below, tour.long))).next none 0 (omega (arith, below, tour.long)))

  -- the pickup's own row, and the rows after it
  pub missed_anyway : (other later : ℕ) (d : Row) → p.kind ≡ LiLim → at < later → later ≤ length t.route.now + 1 → IsLateAnyway t detour at (get_or t.rows.now (at - 1) d) →
      1 ≤ excess_of (violation_of p (insert (route_with t at number) later other))
  missed_anyway other later d kind following most late =
      let route = t.route.now in
      let picked = route_with t at number in
      let both = insert picked later other in
      let row = inserted_row (get_or t.rows.now (at - 1) d) detour.service detour.to t.stop.now in
      let is_row : row ≡ row_after p picked at = row_told p t at tour one within detour ways number is d row refl in
      let longer = length-insert route at number within in
      let fits : later ≤ length picked = omega (arith, longer, most) in
      let begins : row.start ≡ start p both (at + 1) =
      ap (λ (r : Row). r.start) is_row ∙ sym (start_before p picked other later (stop_numbered p other) (omega (arith, following)) fits refl (at + 1) (omega (arith, following))) in
      let stands : place p both (at + 1) ≡ t.stop.now =
      place_before p picked other later (stop_numbered p other) (omega (arith, following)) fits refl (at + 1) (omega (arith, following)) ∙ place_here p route number at t.stop.now one within is in
      elim late [
        | inl here ↦ (
            let limit = ap (λ (s : Stop). s.latest) stands in
            let longest = length-insert picked later other fits in
            missed_at p both (at + 1) kind (record { from = omega arith; to = omega (arith, within, longer, longest); late = omega (arith, limit, begins, ltb-true _ _ here) }))
        | inr after ↦ (
            let service = ap (λ (s : Stop). s.service) is in
            let way : detour.from ≡ distance (stop_numbered p number) (place p route (at + 1)) = ways.from ∙ ap (λ s. distance s (place p route (at + 1))) (sym is) in
            let found = late_somewhere p route number other at later one within following most saves due_at last_due next_due (omega (arith, after, begins, service, way)) in
            missed_at p both found.0 kind found.1)
      ]

-- ---- the best trial remains the best, whatever place the delivery has
module _ (p : Instance) (t : Tour) (place : ℕ) (within : place ≤ length t.route.now + 1) (from : 1 < place) (a b : Stop) (best : Trial) where
  abbrev with_pickup : List ℕ
  with_pickup = route_with t (place - 1) a.number

  -- the trial with the delivery after the first `later` stops
  abbrev beside : ℕ → Trial
  beside later = trial_of p (insert with_pickup later b.number) place (later + 1)

  abbrev Stays : Type 0
  Stays = best_from (Some best) (map (trial_at p t.route.now (Pair a b)) (map (λ j. (place, j)) (range_with_len (place + 1) (length t.route.now + 2 - place)))) ≡ Some best

  stays : ((later : ℕ) → place - 1 < later → later ≤ length t.route.now + 1 → no_worse best (beside later)) → Stays
  stays worse = none_better p t.route.now a b best place (place + 1) (length t.route.now + 2 - place) (λ j first last.
      let same : trial_at p t.route.now (Pair a b) (place, j) ≡ beside (j - 1) = sym (trial_with p t.route.now a b with_pickup place j (omega (arith, first)) refl) in
      ap (λ t. is_better t best) same ∙ not_better (beside (j - 1)) best (worse (j - 1) (omega (arith, first)) (omega (arith, last))))

  -- each trial violates at least as much as the rows up to the pickup
  least_beside : (found : FirstViolations) (later : ℕ) → found ≡ violations_in p (take (place - 1 + 1) (rows_of p with_pickup)) → place - 1 < later → later ≤ length t.route.now + 1 →
      violates_less (beside later).violation (least_of found) ≡ false
  least_beside found later is first last =
      let longer = length-insert t.route.now (place - 1) a.number (omega (arith, from, within)) in
      subst (λ f. violates_less (beside later).violation (least_of f) ≡ false) (sym is)
      (least_stays p with_pickup b.number later (place - 1 + 1) (omega (arith, first)) (omega (arith, last, longer)) (omega (arith, first)))

  longer_beside : (later : ℕ) → DetoursSaveAtMostOne → best.distance < route_length p with_pickup → place - 1 < later → later ≤ length t.route.now + 1 → best.distance ≤ (beside later).distance
  longer_beside later saves far first last =
      let least = no_shorter p t.route.now a.number b.number (place - 1) later (omega (arith, from)) (omega (arith, within)) first last saves in
      omega (arith, far, least)

  pub stays_by_miss : (found : FirstViolations) → found ≡ violations_in p (take (place - 1 + 1) (rows_of p with_pickup)) → violates_less best.violation (least_of found) ≡ true → Stays
  stays_by_miss found is less = stays (λ later first last. by_miss best (beside later) (least_of found) less (least_beside found later is first last))

  pub stays_by_distance : (found : FirstViolations) → found ≡ violations_in p (take (place - 1 + 1) (rows_of p with_pickup)) → violates_less (least_of found) best.violation ≡ false →
      DetoursSaveAtMostOne → best.distance < route_length p with_pickup → Stays
  stays_by_distance found is no_more saves far = stays (λ later first last.
      by_distance best (beside later) (least_of found) no_more (least_beside found later is first last) (longer_beside later saves far first last))

  pub stays_by_lateness : is_overload best.violation ≡ false → excess_of best.violation ≡ 1 →
      ((later : ℕ) → place - 1 < later → later ≤ length t.route.now + 1 → 1 ≤ excess_of (violation_of p (insert with_pickup later b.number))) →
      DetoursSaveAtMostOne → best.distance < route_length p with_pickup → Stays
  stays_by_lateness light one misses saves far = stays (λ later first last.
      let more = misses later first last in
      by_excess best (beside later) light (omega (arith, one, more)) (longer_beside later saves far first last))

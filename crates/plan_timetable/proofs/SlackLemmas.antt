-- Two forms of a latest start agree: the one by the sum of legs and services, and the greatest start from which
-- a vehicle continues in time.
use Rattle.std.proofs.Common.{◌≡◌, ℕ, zero, suc, ◌+◌, ◌-◌, ◌<◌, ◌≤◌, max, min, List, length, map, fold, refl, ap, subst, arith, inl, inr}
use Rattle.std.specs.List.{range_with_len}
use Rattle.std.proofs.lemmas.Bool.{cases_lt}
use Rattle.std.proofs.lemmas.List.FromFn.{sum_by-map-range_with_len_more}
use Rattle.plan_types.specs.Instance.{Instance}
use Rattle.plan_types.specs.declared.requests.Kind.TheVariants.{LiLim}
use Rattle.route_sched.specs.Route.{place}
use Rattle.route_sched.specs.Schedule.{leg, start, time_between}
use Rattle.route_sched.proofs.KnownStops.{place-return}
use Rattle.route_sched.proofs.Steps.{start-next}
use Rattle.slack_tables.specs.Along.{moved_along}
use Rattle.slack_tables.specs.Insertion.{KeepsLimits}
use Rattle.slack_tables.specs.Latest.{MeetsLaterWindows, IsLatestStart}
use Rattle.slack_tables.proofs.AlongLemmas.{moved-first, moved-next}
use Rattle.slack_tables.proofs.CourseLemmas.{moved-is}
use Rattle.plan_timetable.specs.Entries.{latest_for, latest_allowed}
use Rattle.plan_timetable.specs.Laws.{IsLatestInTime, LatestStartsAreGreatest}

-- ---- the minimum of some numbers
module _ (f : ℕ → ℕ) where
  least_from : ℕ → ℕ → ℕ → ℕ
  least_from b i n = fold min b (map f (range_with_len i n))

  least_below : (b i n u : ℕ) → u ≤ b → ((k : ℕ) → i ≤ k → k < i + n → u ≤ f k) → u ≤ least_from b i n
  unfolding least_from
  least_below b i zero u base each = base
  least_below b i (suc n) u base each =
      least_below (min b (f i)) (i + 1) n u (omega (arith, each i (omega arith) (omega arith))) (λ k from to. each k (omega arith) (omega arith))

  least_base : (b i n : ℕ) → least_from b i n ≤ b
  unfolding least_from
  least_base b i zero = omega arith
  least_base b i (suc n) = omega (arith, least_base (min b (f i)) (i + 1) n)

  least_each : (b i n k : ℕ) → i ≤ k → k < i + n → least_from b i n ≤ f k
  unfolding least_from
  least_each b i zero k from to = absurd (omega arith)
  least_each b i (suc n) k from to = elim (cases_lt i k) [
    | inl later ↦ least_each (min b (f i)) (i + 1) n k (omega arith) (omega arith)
    | inr here ↦ (let same : i ≡ k = omega arith in subst (λ j. least_from (min b (f i)) (i + 1) n ≤ f j) same (omega (arith, least_base (min b (f i)) (i + 1) n)))
  ]

module _ (p : Instance) (route : List ℕ) where
  -- ---- from place i on
  between-none : (i : ℕ) → time_between p route i i ≡ 0
  between-none i = let none : i - i ≡ 0 = omega arith in rw none refl

  between-more : (i k : ℕ) → i ≤ k → time_between p route i (k + 1) ≡ time_between p route i k + ((place p route k).service + leg p route k)
  between-more i k h =
      let one_more : k + 1 - i ≡ (k - i) + 1 = omega arith in
      rw one_more (sum_by-map-range_with_len_more (λ x. x) (λ j. (place p route j).service + leg p route j) i (k - i) k (omega arith))

  -- No vehicle is at a later place before the time that legs and services take.
  not_before : (i t n : ℕ) → t + time_between p route i (i + n) ≤ moved_along (place p route) i t (i + n)
  not_before i t zero =
      let none : i + 0 ≡ i = omega arith in
      rw none (omega (arith, moved-first (place p route) i t, between-none i))
  not_before i t (suc n) =
      let more : i + suc n ≡ i + n + 1 = omega arith in
      rw more (omega (arith, not_before i t n, moved-next (place p route) i t (i + n) (omega arith), between-more i (i + n) (omega arith)))

  -- At a later place, service starts by the time that legs and services take, or by the scheduled start,
  -- whichever is later.
  not_after : (i t n : ℕ) → moved_along (place p route) i t (i + n) ≤ max (t + time_between p route i (i + n)) (start p route (i + n))
  not_after i t zero =
      let none : i + 0 ≡ i = omega arith in
      rw none (omega (arith, moved-first (place p route) i t, between-none i))
  not_after i t (suc n) =
      let more : i + suc n ≡ i + n + 1 = omega arith in
      rw more (omega (arith, not_after i t n, moved-next (place p route) i t (i + n) (omega arith), between-more i (i + n) (omega arith), start-next p route (i + n)))

  -- The schedule itself takes at least the time of legs and services.
  takes : (i n : ℕ) → start p route i + time_between p route i (i + n) ≤ start p route (i + n)
  takes i zero =
      let none : i + 0 ≡ i = omega arith in
      rw none (omega (arith, between-none i))
  takes i (suc n) =
      let more : i + suc n ≡ i + n + 1 = omega arith in
      rw more (omega (arith, takes i n, between-more i (i + n) (omega arith), start-next p route (i + n)))

  module _ (lilim : p.kind ≡ LiLim) (limits : KeepsLimits p route) where
    in_time : (k : ℕ) → 1 ≤ k → k ≤ length route + 1 → start p route k ≤ (place p route k).latest
    in_time k from to = elim (cases_lt (length route) k) [
      | inl following ↦ (let end : length route + 1 ≡ k = omega arith in
          let depot : (place p route (length route + 1)).latest ≡ p.depot.latest = ap (λ s. s.latest) (place-return p route (length route) (omega arith)) in
          subst (λ j. start p route j ≤ (place p route j).latest) end (omega (arith, limits.return lilim, depot)))
      | inr within ↦ limits.window lilim k from within
    ]

    -- From place i, the time to place k is at most the latest time of place k.
    fits : (i k : ℕ) → i < k → k ≤ length route + 1 → time_between p route i k ≤ (place p route k).latest
    fits i k h to =
        let way : i + (k - i) ≡ k = omega arith in
        let long : start p route i + time_between p route i k ≤ start p route k = subst (λ j. start p route i + time_between p route i j ≤ start p route j) way (takes i (k - i)) in
        omega (arith, long, in_time k (omega arith) to)

    -- A start that is at most the latest start for each later place misses no later window.
    goes_on : (i t : ℕ) → ((k : ℕ) → i < k → k ≤ length route + 1 → t ≤ latest_for p route i k) → MeetsLaterWindows p route i t
    goes_on i t each = λ _ k h to.
        let way : i + (k - i) ≡ k = omega arith in
        let late : moved_along (place p route) i t k ≤ max (t + time_between p route i k) (start p route k) = subst
        (λ j. moved_along (place p route) i t j ≤ max (t + time_between p route i j) (start p route j)) way (not_after i t (k - i)) in
        omega (arith, moved-is p route i t k, late, each k h to, fits i k h to, in_time k (omega arith) to)

    -- A start that misses no later window is at most the latest start for each later place.
    each_on : (i t : ℕ) → MeetsLaterWindows p route i t → (k : ℕ) → i < k → k ≤ length route + 1 → t ≤ latest_for p route i k
    each_on i t goes k h to =
        let way : i + (k - i) ≡ k = omega arith in
        let early : t + time_between p route i k ≤ moved_along (place p route) i t k = subst (λ j. t + time_between p route i j ≤ moved_along (place p route) i t j) way (not_before i t (k - i)) in
        omega (arith, moved-is p route i t k, early, goes lilim k h to)

    -- A start is at most the latest start at a place if it is at most the latest start for this place and for
    -- each later one.
    at_most : (i t : ℕ) → t ≤ (place p route i).latest → ((k : ℕ) → i < k → k ≤ length route + 1 → t ≤ latest_for p route i k) → t ≤ latest_allowed p route i
    unfolding latest_allowed least_from
    at_most i t here each = least_below (latest_for p route i) (place p route i).latest (i + 1) (length route + 1 - i) t here (λ k from to. each k (omega arith) (omega arith))

    here_too : (i : ℕ) → latest_allowed p route i ≤ (place p route i).latest
    unfolding latest_allowed least_from
    here_too i = least_base (latest_for p route i) (place p route i).latest (i + 1) (length route + 1 - i)

    each_too : (i k : ℕ) → i < k → k ≤ length route + 1 → latest_allowed p route i ≤ latest_for p route i k
    unfolding latest_allowed least_from
    each_too i k h to = least_each (latest_for p route i) (place p route i).latest (i + 1) (length route + 1 - i) k (omega arith) (omega arith)

    latest_goes_on : (i : ℕ) → MeetsLaterWindows p route i (latest_allowed p route i)
    latest_goes_on i = goes_on i (latest_allowed p route i) (each_too i)

    is_latest : (i : ℕ) → IsLatestInTime p route i (latest_allowed p route i)
    is_latest i = record {
      in_time = record { here = here_too i; following = latest_goes_on i };
      greatest = λ u timely. at_most i u timely.here (each_on i u timely.following);
    }

    -- the latest start by a table, or the latest time of the place itself if that is lower, is `latest_allowed`
    pub limited : (i : ℕ) (t : ℕ) → IsLatestStart p route i t → min (place p route i).latest t ≡ latest_allowed p route i
    limited i t is =
        let less = at_most i (min (place p route i).latest t) (omega arith) (λ k h to. omega (arith, each_on i t is.continues_within_limits k h to)) in
        omega (arith, less, here_too i, is.greatest (latest_allowed p route i) (latest_goes_on i))

    pub unlimited : (i : ℕ) → ((t : ℕ) → MeetsLaterWindows p route i t) → (place p route i).latest ≡ latest_allowed p route i
    unlimited i goes =
        let less = at_most i (place p route i).latest (omega arith) (each_on i (place p route i).latest (goes (place p route i).latest)) in
        omega (arith, less, here_too i)

pub latest_starts_are_greatest : LatestStartsAreGreatest
latest_starts_are_greatest p route i lilim limits within = is_latest p route lilim limits i

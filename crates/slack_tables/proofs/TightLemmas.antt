-- A vehicle that is too late for a place of a table by more than 1 is too late for later places, whatever stop
-- comes in between.
use Rattle.std.proofs.Common.{◌≡◌, ℕ, zero, suc, ◌+◌, ◌-◌, ◌<◌, ◌≤◌, ◌⊎◌, min, max, true, false, cond, int_le, ℤ}
use Rattle.std.proofs.Common.{pos, ◌-ℤ◌, ◌+ℤ◌, List, get_or, length, Option, Some, None, refl, sym, ap, ◌∙◌, arith, subst, inl, inr}
use Rattle.std.specs.Prelude.{nat_lt}
use Rattle.std.proofs.lemmas.Bool.{leb-true, ltb-true, cases_lt, and_parts, or_cases, cond-false, false_from_ne_true}
use Rattle.std.proofs.lemmas.Option.{none-some, option_and_then_some}
use Rattle.plan_types.specs.declared.requests.Stop.{Stop}
use Rattle.plan_types.specs.declared.requests.Kind.{Kind}
use Rattle.plan_types.specs.declared.requests.Kind.TheVariants.{LiLim, Vrp}
use Rattle.nint_dist.specs.Distance.{distance, DetoursSaveAtMostOne}
use Rattle.slack_tables.specs.Along.{stay, stop_on, start_along, MeetsLaterWindowsAlong}
use Rattle.slack_tables.specs.Best.{IsFirstOf}
use Rattle.slack_tables.specs.ClosedPlaces.{deadline_of, has_deadline_before, makes_late, AreTight, IsClosed, AreClosed}
use Rattle.slack_tables.specs.Course.{Course}
use Rattle.slack_tables.specs.DriveSteps.{driven_on, stepped, with_stop, with_pair}
use Rattle.slack_tables.specs.TableFields.{AreKnown}
use Rattle.slack_tables.specs.Legs.{AreAscending}
use Rattle.slack_tables.specs.Ride.{ride_of, is_in_time, is_within_limits, can_visit, price}
use Rattle.slack_tables.specs.Scan.{AddsPair}
use Rattle.slack_tables.specs.Walk.{walk_to}
use Rattle.slack_tables.specs.declared.progress.Limits.{Limits}
use Rattle.slack_tables.specs.declared.progress.Progress.{Progress}
use Rattle.slack_tables.specs.declared.progress.PlaceSlack.{PlaceSlack}
use Rattle.slack_tables.specs.declared.scan.PricedInsertion.{PricedInsertion}
use Rattle.slack_tables.proofs.AlongLemmas.{start-next}
use Rattle.slack_tables.proofs.BestLemmas.{first-same}
use Rattle.slack_tables.proofs.KnownLemmas.{continues_within_limits}
use Rattle.slack_tables.proofs.LateLemmas.{step-start, step-after, late-pickup}
use Rattle.slack_tables.proofs.LatestLemmas.{IsBound, bound-before}
use Rattle.slack_tables.proofs.WalkLemmas.{and_then-none, walk-first, walk-more, distance-back}

-- the places of a table are tight
pub tight : (c : Course) (places : List PlaceSlack) → AreKnown c places → AreTight c.kind places
unfolding IsBound
tight c places table = λ lilim k d h.
    let here = table.known k d (omega arith) in
    let next = table.known (k + 1) d h in
    let start = start-next (stop_on c) k in
    let visit = (table.small (k + 1) d h).at.visit in
    let late : (get_or places (k + 1) d).at.stop.latest ≡ (stop_on c (k + 1)).latest = ap (λ (s : Stop). s.latest) (next.at.stop) in
    let latest : (stop_on c (k + 1)).latest ≤ 100000000 = omega arith in
    let window = table.limits.window lilim (k + 1) (omega arith) (omega arith) in
    let fits : start_along (stop_on c) (k + 1) ≤ (get_or places (k + 1) d).latest_start =
    (next.latest_start lilim (start_along (stop_on c) (k + 1)) (omega arith)).0
    (continues_within_limits c.kind c.capacity (stop_on c) (length c.stops + 1) table.limits (k + 1)) in
    let bound = bound-before c.kind (stop_on c) (length c.stops + 1) k (get_or places (k + 1) d).latest_start
    (start_along (stop_on c) (k + 1)) lilim (omega arith) (λ u v. next.latest_start lilim u v) (omega arith) fits window latest
    (omega arith) in
    let goes : MeetsLaterWindowsAlong c.kind (stop_on c) (length c.stops + 1) k
    (min (get_or places (k + 1) d).latest_start (stop_on c (k + 1)).latest - stay (stop_on c) k) =
    (bound (min (get_or places (k + 1) d).latest_start (stop_on c (k + 1)).latest - stay (stop_on c) k) (omega arith)).1
    (omega arith) in
    let less = (here.latest_start lilim (min (get_or places (k + 1) d).latest_start (stop_on c (k + 1)).latest - stay (stop_on c) k) (omega arith)).0 goes in
    let service : (get_or places k d).at.stop.service ≡ (stop_on c k).service = ap (λ (s : Stop). s.service) (here.at.stop) in
    let way : distance (get_or places k d).at.stop (get_or places (k + 1) d).at.stop ≡ distance (stop_on c k) (stop_on c (k + 1)) =
    rw (here.at.stop, next.at.stop) refl in
    omega arith

module _ (limits : Limits) (places : List PlaceSlack) (d : PlaceSlack) (lilim : limits.kind ≡ LiLim) (are : AreTight limits.kind places) (law : DetoursSaveAtMostOne) where
  -- the vehicle is too late for place k by more than 1
  abbrev pub IsLateFor : Progress → ℕ → Type 0
  IsLateFor a k = deadline_of (get_or places k d) + 1 < a.start + a.stop.service + distance a.stop (get_or places k d).at.stop

  late-on : (a b : Progress) (k : ℕ) → k + 1 < length places → IsLateFor a k → stepped limits a (get_or places k d).at.stop ≡ Some b → IsLateFor b (k + 1)
  late-on a b k within late is =
      let after = step-after limits a b (get_or places k d).at.stop lilim is in
      let stop = after.0 in
      let next = are lilim k d within in
      let service : b.stop.service ≡ (get_or places k d).at.stop.service = ap (λ (s : Stop). s.service) stop in
      let way : distance b.stop (get_or places (k + 1) d).at.stop
      ≡ distance (get_or places k d).at.stop (get_or places (k + 1) d).at.stop =
      ap (λ s. distance s (get_or places (k + 1) d).at.stop) stop in
      omega arith

  late-between : (a : Progress) (k : ℕ) (q : Stop) → IsLateFor a k → with_stop limits a q (get_or places k d) ≡ None
  late-between a k q late =
      let tail = get_or places k d in
      let b = driven_on a q in
      let c = driven_on (driven_on a q) tail.at.stop in
      cond-false (can_visit limits (ride_of a) a.stop.service (distance a.stop q) q (distance q tail.at.stop) tail)
      (Some (price (ride_of a) (distance a.stop q) (distance q tail.at.stop) tail)) None (false_from_ne_true _
      (λ all.
      (let first = and_parts (is_within_limits limits (ride_of b) q) _ all in
      let second = and_parts (is_within_limits limits (ride_of c) tail.at.stop) _ first.1 in
      let after = step-after limits b c tail.at.stop lilim (ap (λ k. cond k (Some c) None) second.0) in
      let saved = law a.stop tail.at.stop q in
      let le =
      leb-true _ _
      (subst (λ k. is_in_time k c.start tail.latest_start ≡ true) lilim
      (and_parts (int_le (c.load -ℤ tail.at.load +ℤ tail.max_load) (pos limits.capacity))
      (is_in_time limits.kind c.start tail.latest_start) second.1).1) in
      absurd (omega arith))))

  module _ (p : Stop) (i : ℕ) (first : (a : Progress) → stepped limits (get_or places (i - 1) d).at p ≡ Some a → IsLateFor a i) where
    walk-late : (n : ℕ) (a : Progress) → i + n < length places → walk_to limits places p i d (i + 1 + n) ≡ Some a → IsLateFor a (i + n)
    walk-late zero a within is =
        let none : i + 1 + 0 ≡ i + 1 = omega arith in
        subst (IsLateFor a) (sym (omega arith)) (first a (sym (walk-first limits places p i d) ∙ (sym (ap (walk_to limits places p i d) none) ∙ is)))
    walk-late (suc n) a within is =
        let next : i + 1 + suc n ≡ i + 1 + n + 1 = omega arith in
        option_and_then_some _ _ a
        (sym (walk-more limits places p i d (i + 1 + n) (omega arith) (omega arith))
        ∙ (sym (ap (walk_to limits places p i d) next) ∙ is))
        (λ b before step.
        (let late = walk-late n b (omega arith) before in
        subst (IsLateFor a) (omega arith)
        (late-on b a (i + n) (omega arith) late (sym (ap (λ k. stepped limits b (get_or places k d).at.stop) (omega arith)) ∙ step))))

    -- no later delivery keeps the limits
    pub closed-by : (q : Stop) (j : ℕ) → i < j → j ≤ length places → with_pair limits places p q i j d ≡ None
    closed-by q j order within =
        and_then-none _ _
        (λ a there.
        (let far : i + 1 + (j - (i + 1)) ≡ j = omega arith in
        let here : i + (j - (i + 1)) ≡ j - 1 = omega arith in
        late-between a (j - 1) q (subst (IsLateFor a) here (walk-late (j - (i + 1)) a (omega arith) (ap (walk_to limits places p i d) far ∙ there)))))

-- ---- the checks in the code
module _ (limits : Limits) (places : List PlaceSlack) (p : Stop) (i : ℕ) (are : AreTight limits.kind places) (law : DetoursSaveAtMostOne) where
  -- no pair fits with its pickup at place i if service at that place of the table must start more than 1 before
  -- the pickup's window opens
  pub closed-due : (e : PlaceSlack) → ((d : PlaceSlack) → e ≡ get_or places i d) → has_deadline_before limits.kind e p.earliest ≡ true → IsClosed limits places p i
  closed-due e is early = by limits.kind refl
    where
      by : (k : Kind) → limits.kind ≡ k → IsClosed limits places p i
      by LiLim lilim = λ q j d. closed-by limits places d lilim are law p i
          (λ a step.
          (let due = ltb-true _ _ (subst (λ k. has_deadline_before k e p.earliest ≡ true) lilim early) in
          let same : deadline_of e ≡ deadline_of (get_or places i d) = ap deadline_of (is d) in
          let start = (step-start limits (get_or places (i - 1) d).at a p step).0 in
          omega arith)) q j
      by Vrp vrp = absurd (let no : false ≡ true = subst (λ k. has_deadline_before k e p.earliest ≡ true) vrp early in cc)

  -- no pair fits with its pickup at place i if the pickup is late by lower bounds on distances, or makes the
  -- next place late
  pub closed-late : limits.kind ≡ LiLim → (before next : PlaceSlack) (to from : ℕ) → ((d : PlaceSlack) → before ≡ get_or places (i - 1) d)
      → ((d : PlaceSlack) → next ≡ get_or places i d) → ((d : PlaceSlack) → to ≤ distance (get_or places (i - 1) d).at.stop p)
      → ((d : PlaceSlack) → from ≤ distance (get_or places i d).at.stop p) → makes_late before next p to from ≡ true → IsClosed limits places p i
  closed-late lilim before next to from is_before is_next is_to is_from late = λ q j d. closed-by limits places d lilim are law p i (first d) q j
    where
      start : ℕ
      start = max (before.at.start + before.at.stop.service + to) p.earliest

      first : (d : PlaceSlack) (a : Progress) → stepped limits (get_or places (i - 1) d).at p ≡ Some a
          → deadline_of (get_or places i d) + 1 < a.start + a.stop.service + distance a.stop (get_or places i d).at.stop
      first d a step = elim (or_cases (nat_lt p.latest start) (nat_lt (deadline_of next + 1) (start + p.service + from)) late) [
        | inl over ↦ (let less = ltb-true p.latest start over in let le = there in let in_time = after.2 in absurd (omega arith))
        | inr over ↦
            (let less = ltb-true (deadline_of next + 1) (start + p.service + from) over in
            let le = there in
            let same : deadline_of next ≡ deadline_of (get_or places i d) = ap deadline_of (is_next d) in
            let service : a.stop.service ≡ p.service = ap (λ (s : Stop). s.service) after.0 in
            let way : distance a.stop (get_or places i d).at.stop ≡ distance (get_or places i d).at.stop p =
            ap (λ s. distance s (get_or places i d).at.stop) after.0 ∙ distance-back p (get_or places i d).at.stop in
            omega arith)
      ]
        where
          after : (a.stop ≡ p)
              × ((get_or places (i - 1) d).at.start + (get_or places (i - 1) d).at.stop.service
              + distance (get_or places (i - 1) d).at.stop p
              ≤ a.start) × (a.start ≤ p.latest)
          after = step-after limits (get_or places (i - 1) d).at a p lilim step

          there : start ≤ a.start
          there =
              let window = (step-start limits (get_or places (i - 1) d).at a p step).0 in
              let arrival = after.1 in
              let left : before.at.start ≡ (get_or places (i - 1) d).at.start = ap (λ (e : PlaceSlack). e.at.start) (is_before d) in
              let stay : before.at.stop.service ≡ (get_or places (i - 1) d).at.stop.service = ap (λ (e : PlaceSlack). e.at.stop.service) (is_before d) in
              let way = is_to d in
              omega arith

-- ---- one place after another
pub closed-more : (limits : Limits) (places : List PlaceSlack) (p : Stop) (m n : ℕ) → AreClosed limits places p m n
    → IsClosed limits places p n → AreClosed limits places p m (n + 1)
closed-more limits places p m n are is = λ i following before. by i following before (cases_lt i n)
  where
    by : (i : ℕ) → m < i → i < n + 1 → (i < n) ⊎ (n ≤ i) → IsClosed limits places p i
    by i following before (inl less) = are i following less
    by i following before (inr last) = let same : n ≡ i = omega arith in subst (IsClosed limits places p) same is

-- no pair fits with its pickup after a place where service starts after the pickup's latest time
pub closed-past : (limits : Limits) (places : List PlaceSlack) (p : Stop) (i : ℕ) (e : PlaceSlack) → AreAscending places → 1 ≤ i
    → ((d : PlaceSlack) → e ≡ get_or places (i - 1) d) → is_in_time limits.kind e.at.start p.latest ≡ false
    → AreClosed limits places p (i - 1) (length places)
closed-past limits places p i e ascending one is late = λ k following before q j d order last.
    late-pickup limits places p q d ascending i k j one (omega arith) order last
    (subst (λ (e : PlaceSlack). is_in_time limits.kind e.at.start p.latest ≡ false) (is d) late)

-- ---- closed places may be skipped: the best insertion from the first open place on is the best of all
pub open-only : (limits : Limits) (places : List PlaceSlack) (p q : Stop) (kept first : ℕ) (below : ℤ) (d : PlaceSlack) (o : Option PricedInsertion)
    → kept < first → AreClosed limits places p kept first → IsFirstOf (AddsPair limits places p q (first - 1) below d) o
    → IsFirstOf (AddsPair limits places p q kept below d) o
open-only limits places p q kept first below d o later closed is =
    first-same _ _
    (λ a adds. (
      record { following = let following = adds.0.following in omega arith; order = adds.0.order; within = adds.0.within; added = adds.0.added },
      adds.1,
    ))
    (λ a adds. (
      record { following = by a adds (cases_lt a.pickup first); order = adds.0.order; within = adds.0.within; added = adds.0.added },
      adds.1,
    )) o is
  where
    by : (a : PricedInsertion) → AddsPair limits places p q kept below d a → (a.pickup < first) ⊎ (first ≤ a.pickup) → first - 1 < a.pickup
    by a adds (inl before) = absurd (none-some a.distance (sym (closed a.pickup adds.0.following before q a.delivery d adds.0.order adds.0.within) ∙ adds.0.added))
    by a adds (inr following) = omega arith

pub none-open : (limits : Limits) (places : List PlaceSlack) (p q : Stop) (kept : ℕ) (below : ℤ) (d : PlaceSlack)
    → AreClosed limits places p kept (length places) → IsFirstOf (AddsPair limits places p q kept below d) None
none-open limits places p q kept below d closed = λ a adds.
    none-some a.distance
    (sym (closed a.pickup adds.0.following
    (let order = adds.0.order in let within = adds.0.within in omega arith) q a.delivery d adds.0.order adds.0.within)
    ∙ adds.0.added)

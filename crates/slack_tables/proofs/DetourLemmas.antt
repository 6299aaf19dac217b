-- The price of a pair, by its two detours.
use Rattle.std.proofs.Common.{◌≡◌, ℕ, zero, suc, ◌+◌, ◌-◌, ◌<◌, ◌≤◌, ◌⊎◌, int_lt, ℤ, pos, ◌+ℤ◌, ◌-ℤ◌}
use Rattle.std.proofs.Common.{◌≤ℤ◌, List, get_or, length, Some, None, refl, sym, ap, ◌∙◌, arith, subst, inl, inr}
use Rattle.std.proofs.lemmas.Bool.{cases_lt, cond_both}
use Rattle.std.proofs.lemmas.Option.{cond_some, option_and_then_some}
use Rattle.std.proofs.lemmas.Int.{ints}
use Rattle.plan_types.specs.declared.requests.Stop.{Stop}
use Rattle.nint_dist.specs.Distance.{distance}
use Rattle.slack_tables.specs.DriveSteps.{stepped, with_pair}
use Rattle.slack_tables.specs.Legs.{AreLinked, AreLeastDetours, detour_of}
use Rattle.slack_tables.specs.Ride.{ride_of, price, price_if_feasible, price_below}
use Rattle.slack_tables.specs.Walk.{walk_to, IsLoadedRide}
use Rattle.slack_tables.specs.declared.progress.Limits.{Limits}
use Rattle.slack_tables.specs.declared.progress.Progress.{Progress}
use Rattle.slack_tables.specs.declared.progress.PlaceSlack.{PlaceSlack}
use Rattle.slack_tables.specs.declared.ride.Ride.{Ride}
use Rattle.slack_tables.specs.declared.scan.LoadedRide.{LoadedRide}
use Rattle.slack_tables.proofs.FirstLemmas.{int_lt-true}
use Rattle.slack_tables.proofs.WalkLemmas.{distance-back, walk-first, walk-more}

step-far : (limits : Limits) (a b : Progress) (s : Stop) → stepped limits a s ≡ Some b → (b.stop ≡ s) × (b.distance ≡ a.distance + distance a.stop s)
step-far limits a b s is =
    let same = sym (cond_some _ _ b is).1 in
    (ap (λ (x : Progress). x.stop) same, ap (λ (x : Progress). x.distance) same)

pub price_if_feasible-price : (limits : Limits) (r : Ride) (service to : ℕ) (s : Stop) (from : ℕ) (tail : PlaceSlack) (x : ℤ)
    → price_if_feasible limits r service to s from tail ≡ Some x → x ≡ price r to from tail
price_if_feasible-price limits r service to s from tail x is = sym (cond_some _ _ x is).1

-- an insertion whose lower bound reaches the limit on prices is not offered
pub price_if_feasible-dear : (below : ℤ) (limits : Limits) (r : Ride) (service to : ℕ) (s : Stop) (from : ℕ) (tail : PlaceSlack) (least_to least_from : ℕ)
    → least_to ≤ to → least_from ≤ from → below ≤ℤ price r least_to least_from tail
    → None ≡ price_below below limits r service to s from tail
price_if_feasible-dear below limits r service to s from tail least_to least_from is_to is_from le =
    cond_both (int_lt (price r to from tail) below) (price_if_feasible limits r service to s from tail) None (λ o. None ≡ o)
    (λ less. let lt = int_lt-true (price r to from tail) below less in absurd (omega (arith, ints))) (λ _. refl)

module _ (limits : Limits) (places : List PlaceSlack) (p q : Stop) (i : ℕ) (d : PlaceSlack) (linked : AreLinked places) where
  -- the distance to place i through the pickup
  abbrev pub reach : ℕ
  reach = (get_or places (i - 1) d).at.distance + distance (get_or places (i - 1) d).at.stop p + distance p (get_or places i d).at.stop

  at-first : (a : Progress) → walk_to limits places p i d (i + 1) ≡ Some a
      → (a.stop ≡ p) × (a.distance ≡ (get_or places (i - 1) d).at.distance + distance (get_or places (i - 1) d).at.stop p)
  at-first a is = step-far limits (get_or places (i - 1) d).at a p (sym (walk-first limits places p i d) ∙ is)

  -- the state at the next place of the table, from the state at this one
  one-more : (j : ℕ) (a : Progress) → i < j → j ≤ length places → walk_to limits places p i d (j + 1) ≡ Some a → {P : Type 0}
      → ((b : Progress) → walk_to limits places p i d j ≡ Some b → (a.stop ≡ (get_or places (j - 1) d).at.stop)
      → (a.distance ≡ b.distance + distance b.stop (get_or places (j - 1) d).at.stop) → P)
      → P
  one-more j a order within is then =
      option_and_then_some _ _ a (sym (walk-more limits places p i d j order within) ∙ is)
      (λ b here step. let far = step-far limits b a (get_or places (j - 1) d).at.stop step in then b here far.0 far.1)

  at-place : (n : ℕ) (a : Progress) → i + n < length places → walk_to limits places p i d (i + n + 1 + 1) ≡ Some a
      → (a.stop ≡ (get_or places (i + n) d).at.stop)
      × (a.distance + (get_or places i d).at.distance ≡ reach + (get_or places (i + n) d).at.distance)
  at-place zero a within is =
      one-more (i + 0 + 1) a (omega arith) (omega arith) is
      (λ b before stop far.
      (let none : i + 0 + 1 ≡ i + 1 = omega arith in
      let first = at-first b (subst (λ k. walk_to limits places p i d k ≡ Some b) none before) in
      let there : i + 0 + 1 - 1 ≡ i = omega arith in
      let here : i + 0 ≡ i = omega arith in
      let way : distance b.stop (get_or places (i + 0 + 1 - 1) d).at.stop ≡ distance p (get_or places i d).at.stop = rw (there, first.0) refl in
      let same : (get_or places (i + 0) d).at.distance ≡ (get_or places i d).at.distance = ap (λ k. (get_or places k d).at.distance) here in
      let stop' : a.stop ≡ (get_or places (i + 0) d).at.stop = stop ∙ ap (λ k. (get_or places k d).at.stop) (there ∙ sym here) in
      (stop', omega arith)))
  at-place (suc n) a within is =
      one-more (i + suc n + 1) a (omega arith) (omega arith) is
      (λ b before stop far.
      (let back : i + suc n + 1 ≡ i + n + 1 + 1 = omega arith in
      let known = at-place n b (omega arith) (subst (λ k. walk_to limits places p i d k ≡ Some b) back before) in
      let there : i + suc n + 1 - 1 ≡ i + suc n = omega arith in
      let next : i + n + 1 ≡ i + suc n = omega arith in
      let way : distance b.stop (get_or places (i + suc n + 1 - 1) d).at.stop
      ≡ distance (get_or places (i + n) d).at.stop (get_or places (i + suc n) d).at.stop =
      rw (there, known.0) refl in
      let link =
      subst (λ k. (get_or places k d).at.distance
      ≡ (get_or places (i + n) d).at.distance + distance (get_or places (i + n) d).at.stop (get_or places k d).at.stop) next
      (linked (i + n) d (omega arith)) in
      let stop' : a.stop ≡ (get_or places (i + suc n) d).at.stop = stop ∙ ap (λ k. (get_or places k d).at.stop) there in
      (stop', omega arith)))

  -- the distance that the delivery at place j adds, from the vehicle's state before place j
  pair-price : (j : ℕ) (x : ℤ) → with_pair limits places p q i j d ≡ Some x → {P : Type 0}
      → ((a : Progress) → walk_to limits places p i d j ≡ Some a
      → x ≡ pos (a.distance + distance a.stop q + distance q (get_or places (j - 1) d).at.stop) -ℤ pos (get_or places (j - 1) d).at.distance
      → P) → P
  pair-price j x is then =
      option_and_then_some _ _ x is
      (λ a here cost.
      then a here (price_if_feasible-price limits (ride_of a) a.stop.service (distance a.stop q) q (distance q (get_or places (j - 1) d).at.stop)
      (get_or places (j - 1) d) x cost))

  -- the price with the delivery directly after the pickup
  pub near-is : (x : ℤ) → with_pair limits places p q i (i + 1) d ≡ Some x
      → x ≡ pos ((get_or places (i - 1) d).at.distance + distance (get_or places (i - 1) d).at.stop p + distance p q
      + distance (get_or places i d).at.stop q)
      -ℤ pos (get_or places i d).at.distance
  near-is x is =
      pair-price (i + 1) x is
      (λ a here cost.
      (let first = at-first a here in
      let there : i + 1 - 1 ≡ i = omega arith in
      let way : distance a.stop q ≡ distance p q = rw (first.0) refl in
      let tail : (get_or places (i + 1 - 1) d).at.distance ≡ (get_or places i d).at.distance = ap (λ k. (get_or places k d).at.distance) there in
      let back : distance q (get_or places (i + 1 - 1) d).at.stop ≡ distance (get_or places i d).at.stop q =
      ap (λ k. distance q (get_or places k d).at.stop) there ∙ distance-back q (get_or places i d).at.stop in
      omega (arith, ints)))

  -- the price with the delivery after place m of the table
  pub apart-is : (m : ℕ) (x : ℤ) → i ≤ m → m + 1 < length places → with_pair limits places p q i (m + 2) d ≡ Some x
      → x ≡ (pos reach -ℤ pos (get_or places i d).at.distance) +ℤ detour_of places q m d
  apart-is m x order within is =
      pair-price (m + 2) x is
      (λ a here cost.
      (let far : m + 2 ≡ i + (m - i) + 1 + 1 = omega arith in
      let same : i + (m - i) ≡ m = omega arith in
      let known = at-place (m - i) a (omega arith) (subst (λ k. walk_to limits places p i d k ≡ Some a) far here) in
      let stop : a.stop ≡ (get_or places m d).at.stop = known.0 ∙ ap (λ k. (get_or places k d).at.stop) same in
      let distance_there : (get_or places (i + (m - i)) d).at.distance ≡ (get_or places m d).at.distance = ap (λ k. (get_or places k d).at.distance) same in
      let there : m + 2 - 1 ≡ m + 1 = omega arith in
      let way : distance a.stop q ≡ distance (get_or places m d).at.stop q = rw stop refl in
      let tail : (get_or places (m + 2 - 1) d).at.distance ≡ (get_or places (m + 1) d).at.distance = ap (λ k. (get_or places k d).at.distance) there in
      let back : distance q (get_or places (m + 2 - 1) d).at.stop ≡ distance (get_or places (m + 1) d).at.stop q =
      ap (λ k. distance q (get_or places k d).at.stop) there ∙ distance-back q (get_or places (m + 1) d).at.stop in
      omega (arith, ints)))

  -- `reach`, from the vehicle's state at the pickup
  pub first-reach : (on : LoadedRide) → IsLoadedRide limits places p q i (i + 1) d on → on.ride.distance + on.onward ≡ reach
  first-reach on is =
      let first = at-first _ is.walk in
      let stop = first.0 in
      let onward : on.onward ≡ distance p (get_or places i d).at.stop =
      is.onward ∙ (ap (λ s. distance s (get_or places (i + 1 - 1) d).at.stop) stop
      ∙ ap (λ k. distance p (get_or places k d).at.stop) (omega arith)) in
      omega arith

  module _ (least : List ℤ) (is : AreLeastDetours i least places q) (bound : ℤ) where
    -- each later delivery adds at least the bound
    pub dear-following : (k far base : ℕ) → i ≤ k → k < length least → far ≤ reach → base ≡ (get_or places i d).at.distance
        → bound ≤ℤ ((pos far -ℤ pos base) +ℤ get_or least k (pos 0)) → (j : ℕ) (x : ℤ) → k + 2 ≤ j → j ≤ length places
        → with_pair limits places p q i j d ≡ Some x → bound ≤ℤ x
    dear-following k far base order known is_far is_base hopeless j x following last some =
        let cost = apart-is (j - 2) x (omega arith) (omega arith) (subst (λ n. with_pair limits places p q i n d ≡ Some x) (sym (omega arith)) some) in
        let le = is.lower k (j - 2) d order known (omega arith) (omega arith) in
        omega (arith, ints)

    -- each delivery adds at least the bound, by lower bounds
    pub all-dear : (before next : PlaceSlack) (to between_stops from onward : ℕ) → i < length least → before ≡ get_or places (i - 1) d
        → next ≡ get_or places i d → to ≤ distance (get_or places (i - 1) d).at.stop p → between_stops ≡ distance p q
        → from ≤ distance (get_or places i d).at.stop q → onward ≤ distance (get_or places i d).at.stop p
        → bound ≤ℤ (pos (before.at.distance + to + between_stops + from) -ℤ pos next.at.distance)
        → bound ≤ℤ ((pos (before.at.distance + to + onward) -ℤ pos next.at.distance) +ℤ get_or least i (pos 0)) → (j : ℕ) (x : ℤ)
        → i + 1 ≤ j → j ≤ length places → with_pair limits places p q i j d ≡ Some x → bound ≤ℤ x
    all-dear before next to between_stops from onward known is_before is_next is_to is_across is_from is_onward near apart j x following last some =
        by (cases_lt j (i + 2))
      where
        start : before.at.distance ≡ (get_or places (i - 1) d).at.distance
        start = ap (λ (e : PlaceSlack). e.at.distance) is_before

        base : next.at.distance ≡ (get_or places i d).at.distance
        base = ap (λ (e : PlaceSlack). e.at.distance) is_next

        by : (j < i + 2) ⊎ (i + 2 ≤ j) → bound ≤ℤ x
        by (inl here) =
            let cost = near-is x (subst (λ n. with_pair limits places p q i n d ≡ Some x) (omega arith) some) in
            let same_start = start in
            let same_base = base in
            omega (arith, ints)
        by (inr further) =
            let back = distance-back (get_or places i d).at.stop p in
            let same_start = start in
            dear-following i (before.at.distance + to + onward) next.at.distance (omega arith) known (omega arith) base apart j x further last some

-- A vehicle that reaches a place after a stop's latest time cannot reach that stop in time at any later place.
use Rattle.std.proofs.Common.{◌≡◌, ℕ, zero, suc, ◌+◌, ◌-◌, ◌<◌, ◌≤◌, true, false, cond, List, get_or, length, Some, None, refl, sym, ap, ◌∙◌, arith, subst}
use Rattle.std.proofs.lemmas.Bool.{leb-true, leb-false, and_parts, and_right, false_from_ne_true}
use Rattle.std.proofs.lemmas.Option.{cond_some, option_and_then_some}
use Rattle.plan_types.specs.declared.requests.Stop.{Stop}
use Rattle.plan_types.specs.declared.requests.Kind.{Kind}
use Rattle.plan_types.specs.declared.requests.Kind.TheVariants.{LiLim, Vrp}
use Rattle.nint_dist.specs.Distance.{distance}
use Rattle.slack_tables.specs.DriveSteps.{driven_on, stepped, with_pair}
use Rattle.slack_tables.specs.Legs.{AreAscending}
use Rattle.slack_tables.specs.Ride.{ride_of, is_in_time, is_within_limits}
use Rattle.slack_tables.specs.Walk.{walk_to}
use Rattle.slack_tables.specs.declared.progress.Limits.{Limits}
use Rattle.slack_tables.specs.declared.progress.Progress.{Progress}
use Rattle.slack_tables.specs.declared.progress.PlaceSlack.{PlaceSlack}
use Rattle.slack_tables.proofs.WalkLemmas.{and_then-none, walk-first, walk-more, pair-over}

rises-by : (places : List PlaceSlack) → AreAscending places → (d : PlaceSlack) (n k : ℕ) → k + n < length places
    → (get_or places k d).at.start ≤ (get_or places (k + n) d).at.start
rises-by places ascending d zero k h =
    let same : k + 0 ≡ k = omega arith in subst (λ m. (get_or places k d).at.start ≤ (get_or places m d).at.start) (sym same) (omega arith)
rises-by places ascending d (suc n) k h =
    let before = rises-by places ascending d n k (omega arith) in
    let next : k + suc n ≡ k + n + 1 = omega arith in
    subst (λ m. (get_or places k d).at.start ≤ (get_or places m d).at.start) (sym next) (omega arith)

pub rises-to : (places : List PlaceSlack) → AreAscending places → (d : PlaceSlack) (k m : ℕ) → k ≤ m → m < length places
    → (get_or places k d).at.start ≤ (get_or places m d).at.start
rises-to places ascending d k m h l =
    subst (λ n. (get_or places k d).at.start ≤ (get_or places n d).at.start) (omega arith) (rises-by places ascending d (m - k) k (omega arith))

late-too : (kind : Kind) (t u latest : ℕ) → t ≤ u → is_in_time kind t latest ≡ false → is_in_time kind u latest ≡ true → ⊥
late-too LiLim t u latest le late there = let after = leb-false _ _ late in let before = leb-true _ _ there in absurd (omega arith)
late-too Vrp t u latest le late there = absurd (cc)

late-kept : (limits : Limits) (a : Progress) (s : Stop) (t : ℕ) → is_in_time limits.kind t s.latest ≡ false → t ≤ a.start
    → is_within_limits limits (ride_of (driven_on a s)) s ≡ false
late-kept limits a s t late le = and_right _ _ (false_from_ne_true _ (λ there. late-too limits.kind t (driven_on a s).start s.latest (omega arith) late there))

pub late-pickup : (limits : Limits) (places : List PlaceSlack) (p q : Stop) (d : PlaceSlack) → AreAscending places → (i k j : ℕ) → 1 ≤ i → i ≤ k → k < j
    → j ≤ length places → is_in_time limits.kind (get_or places (i - 1) d).at.start p.latest ≡ false
    → with_pair limits places p q k j d ≡ None
late-pickup limits places p q d ascending i k j one order following within late =
    let never = late-kept limits (get_or places (k - 1) d).at p (get_or places (i - 1) d).at.start late
    (rises-to places ascending d (i - 1) (k - 1) (omega arith) (omega arith)) in
    pair-over limits places p k d q (k + 1) j (omega arith) (omega arith) within
    (walk-first limits places p k d ∙ ap (λ b. cond b (Some (driven_on (get_or places (k - 1) d).at p)) None) never)

pub step-start : (limits : Limits) (a b : Progress) (s : Stop) → stepped limits a s ≡ Some b → (s.earliest ≤ b.start) × (a.start ≤ b.start)
step-start limits a b s is = let start = ap (λ (x : Progress). x.start) (cond_some _ _ b is).1 in (omega arith, omega arith)

-- a vehicle that continues to a stop is in time at the stop, and no earlier than the leg takes
pub step-after : (limits : Limits) (a b : Progress) (s : Stop) → limits.kind ≡ LiLim → stepped limits a s ≡ Some b
    → (b.stop ≡ s) × (a.start + a.stop.service + distance a.stop s ≤ b.start) × (b.start ≤ s.latest)
step-after limits a b s lilim is =
    let kept = cond_some _ _ b is in
    let start = ap (λ (x : Progress). x.start) kept.1 in
    let in_time = leb-true _ _ (subst (λ k. is_in_time k (driven_on a s).start s.latest ≡ true) lilim (and_parts _ _ kept.0).1) in
    (sym (ap (λ (x : Progress). x.stop) kept.1), omega arith, omega arith)

-- a delivery is too late at every later place
module _ (limits : Limits) (places : List PlaceSlack) (p q : Stop) (i : ℕ) (d : PlaceSlack) where
  walk-rises : (j n : ℕ) → i < j → j + n ≤ length places + 1 → (a b : Progress) → walk_to limits places p i d j ≡ Some a
      → walk_to limits places p i d (j + n) ≡ Some b → a.start ≤ b.start
  walk-rises j zero order within a b here there =
      let same : j + 0 ≡ j = omega arith in
      let is : a ≡ b = cc in
      let start = ap (λ (x : Progress). x.start) is in
      omega arith
  walk-rises j (suc n) order within a b here there =
      let next : j + suc n ≡ j + n + 1 = omega arith in
      option_and_then_some _ _ b
      (sym (walk-more limits places p i d (j + n) (omega arith) (omega arith)) ∙ (sym (ap (walk_to limits places p i d) next) ∙ there))
      (λ e before step.
      (let before_e = walk-rises j n order (omega arith) a e here before in
      let after_e = (step-start limits e b (get_or places (j + n - 1) d).at.stop step).1 in
      omega arith))

  pub late-delivery : (j k : ℕ) → i < j → j ≤ k → k ≤ length places → (a : Progress) → walk_to limits places p i d j ≡ Some a
      → is_in_time limits.kind a.start q.latest ≡ false → with_pair limits places p q i k d ≡ None
  late-delivery j k order following within a here late =
      and_then-none _ _
      (λ b there.
      (let far : j + (k - j) ≡ k = omega arith in
      let rises = walk-rises j (k - j) order (omega arith) a b here (ap (walk_to limits places p i d) far ∙ there) in
      let never = late-kept limits b q a.start late rises in
      rw never refl))

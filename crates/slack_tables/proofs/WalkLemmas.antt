-- A vehicle with a pickup on board, place after place.
use Rattle.std.proofs.Common.{◌≡◌, ℕ, zero, suc, ◌+◌, ◌-◌, ◌^◌, ◌<◌, ◌≤◌, Bool, true, false, cond, int_lt, T}
use Rattle.std.proofs.Common.{ℤ, pos, ◌-ℤ◌, ◌<ℤ◌, List, get_or, length, Option, Some, None, refl, sym, ap, ◌∙◌, arith, subst}
use Rattle.std.specs.Prelude.{All, unsigned_abs}
use Rattle.std.specs.Option.{option_and_then, option_map}
use Rattle.std.proofs.lemmas.Bool.{ltb-true, lt-ltb, cond-true}
use Rattle.std.proofs.lemmas.Option.{none-some, same_Some}
use Rattle.std.proofs.lemmas.Int.{ints}
use Rattle.plan_types.specs.declared.requests.Stop.{Stop}
use Rattle.nint_dist.specs.Distance.{distance}
use Rattle.slack_tables.specs.DriveSteps.{stepped, walked, with_stop, with_single, with_pair, IsSmallRow}
use Rattle.slack_tables.specs.Ride.{ride_at, ride_of, driven, is_within_limits, ridden, can_visit, price, price_if_feasible, price_below, IsSmallRide, IsNearRide}
use Rattle.slack_tables.specs.Legs.{AreLinked}
use Rattle.slack_tables.specs.Scan.{served_single, offered, picked_up, advanced_to, advanced}
use Rattle.slack_tables.specs.Walk.{walk_to, IsLoadedRide, IsNearLeg}
use Rattle.slack_tables.specs.declared.progress.Limits.{Limits}
use Rattle.slack_tables.specs.declared.progress.Progress.{Progress}
use Rattle.slack_tables.specs.declared.progress.PlaceSlack.{PlaceSlack}
use Rattle.slack_tables.specs.declared.ride.Ride.{Ride}
use Rattle.slack_tables.specs.declared.scan.Best.{Best}
use Rattle.slack_tables.specs.declared.scan.Trip.{Trip}
use Rattle.slack_tables.specs.declared.scan.LoadedRide.{LoadedRide}

-- the distance is the same in both directions
pub distance-back : (a b : Stop) → distance a b ≡ distance b a
unfolding distance
distance-back a b =
    let x : unsigned_abs (a.x -ℤ b.x) ≡ unsigned_abs (b.x -ℤ a.x) = omega (arith, ints) in
    let y : unsigned_abs (a.y -ℤ b.y) ≡ unsigned_abs (b.y -ℤ a.y) = omega (arith, ints) in
    rw (x, y) refl

-- a mapped option is some value only if the option is
option_map-some : {A B : Type 0} (f : A → B) (o : Option A) (y : B) → Some y ≡ option_map f o → (x : A) × (o ≡ Some x) × (y ≡ f x)
option_map-some f None y is = absurd (none-some y (sym is))
option_map-some f (Some x) y is = (x, refl, same_Some y (f x) is)

option_map-none : {A B : Type 0} (f : A → B) (o : Option A) → None ≡ option_map f o → o ≡ None
option_map-none f None is = refl
option_map-none f (Some x) is = absurd (none-some (f x) is)

cond_map : {A B : Type 0} (b : Bool) (f : A → B) (o : Option A) (y : B) → Some y ≡ cond b (option_map f o) None
    → (b ≡ true) × (x : A) × (o ≡ Some x) × (y ≡ f x)
cond_map true f o y is = let from = option_map-some f o y is in (refl, from.0, from.1, from.2)
cond_map false f o y is = absurd (none-some y (sym is))

-- if f maps the value in o, if any, to `None`, then the result is `None`
pub and_then-none : {A B : Type 0} (f : A → Option B) (o : Option A) → ((x : A) → o ≡ Some x → f x ≡ None) → option_and_then f o ≡ None
and_then-none f None each = refl
and_then-none f (Some x) each = each x refl

-- ---- a ride is the state of a vehicle without its stop
stepped-is : (limits : Limits) (r : Ride) (a s : Stop)
    → stepped limits (ride_at r a) s ≡ option_map (λ r. ride_at r s) (ridden limits r a.service (distance a s) s)
stepped-is limits r a s = by (is_within_limits limits (driven r a.service (distance a s) s) s)
  where
    by : (b : Bool)
        → cond b (Some (ride_at (driven r a.service (distance a s) s) s)) None
        ≡ option_map (λ r. ride_at r s) (cond b (Some (driven r a.service (distance a s) s)) None)
    by true = refl
    by false = refl

-- every price is below the greatest number
pub price_if_feasible-any : (limits : Limits) (a : Progress) (s : Stop) (tail e : PlaceSlack) (r : Ride) (service to from : ℕ) → r ≡ ride_of a
    → service ≡ a.stop.service → to ≡ distance a.stop s → from ≡ distance tail.at.stop s → e ≡ tail → r.distance + to + from ≤ 2 ^ 60
    → price_below (pos 9223372036854775807) limits r service to s from e ≡ with_stop limits a s tail
price_if_feasible-any limits a s tail e r service to from is_ride is_service is_to is_from is_tail few =
    let less : price r to from e <ℤ pos 9223372036854775807 = omega (arith, ints) in
    let back : from ≡ distance s tail.at.stop = is_from ∙ distance-back tail.at.stop s in
    by (int_lt (price r to from e) (pos 9223372036854775807)) less.lt ∙ rw (is_ride, is_service, is_to, back, is_tail) refl
  where
    by : (b : Bool) → T b → cond b (price_if_feasible limits r service to s from e) None ≡ price_if_feasible limits r service to s from e
    by true _ = refl
    by false none = absurd none

-- an insertion that adds at least the bound is not recorded
pub offer-below : (best : Best) (kept : Bool) (x : ℤ) (i j : ℕ)
    → offered best (cond (int_lt x best.bound) (cond kept (Some x) None) None) i j ≡ offered best (cond kept (Some x) None) i j
offer-below best kept x i j = by kept (int_lt x best.bound) refl
  where
    by : (k l : Bool) → int_lt x best.bound ≡ l → offered best (cond l (cond k (Some x) None) None) i j ≡ offered best (cond k (Some x) None) i j
    by k true h = refl
    by false false h = refl
    by true false h = rw h refl

-- ---- along the places of the table
module _ (limits : Limits) (places : List PlaceSlack) (p : Stop) (i : ℕ) (d : PlaceSlack) where
  pub walk-first : walk_to limits places p i d (i + 1) ≡ stepped limits (get_or places (i - 1) d).at p
  unfolding walk_to
  walk-first = let none : i + 1 - (i + 1) ≡ 0 = omega arith in ap (walked limits places p i d) none

  pub walk-more : (j : ℕ) → i < j → j ≤ length places
      → walk_to limits places p i d (j + 1)
      ≡ option_and_then (λ at. stepped limits at (get_or places (j - 1) d).at.stop) (walk_to limits places p i d j)
  unfolding walk_to
  walk-more j order within =
      let more : j + 1 - (i + 1) ≡ suc (j - (i + 1)) = omega arith in
      let here : i + (j - (i + 1)) ≡ j - 1 = omega arith in
      ap (walked limits places p i d) more
      ∙ ap (λ k. option_and_then (λ at. stepped limits at (get_or places k d).at.stop) (walked limits places p i d (j - (i + 1)))) here

  -- the steps along the places of the table, for rides
  pub first-ride : (before : PlaceSlack) (to : ℕ) (o : Option Ride) → before ≡ get_or places (i - 1) d → to ≡ distance before.at.stop p
      → o ≡ ridden limits (ride_of before.at) before.at.stop.service to p
      → walk_to limits places p i d (i + 1) ≡ option_map (λ r. ride_at r p) o
  first-ride before to o is_before is_to made =
      walk-first ∙ (ap (λ (e : PlaceSlack). stepped limits e.at p) (sym is_before)
      ∙ (stepped-is limits (ride_of before.at) before.at.stop p
      ∙ ap (λ o. option_map (λ r. ride_at r p) o) (sym (made ∙ rw is_to refl))))

  pub next-ride : (j : ℕ) (r : Ride) (a : Stop) (e : PlaceSlack) (leg : ℕ) (o : Option Ride) → i < j → j ≤ length places
      → walk_to limits places p i d j ≡ Some (ride_at r a) → e ≡ get_or places (j - 1) d → leg ≡ distance a e.at.stop
      → o ≡ ridden limits r a.service leg e.at.stop → walk_to limits places p i d (j + 1) ≡ option_map (λ r. ride_at r e.at.stop) o
  next-ride j r a e leg o order within here is_e is_leg made =
      walk-more j order within
      ∙ (ap (λ (e : PlaceSlack). option_and_then (λ at. stepped limits at e.at.stop) (walk_to limits places p i d j)) (sym is_e)
      ∙ (ap (λ o. option_and_then (λ at. stepped limits at e.at.stop) o) here ∙
      (stepped-is limits r a e.at.stop ∙ ap (λ o. option_map (λ r. ride_at r e.at.stop) o) (sym (made ∙ rw is_leg refl)))))

  -- if the vehicle cannot reach a place, it cannot reach later ones
  walk-over : (j n : ℕ) → i < j → j + n ≤ length places + 1 → walk_to limits places p i d j ≡ None → walk_to limits places p i d (j + n) ≡ None
  walk-over j zero order within never = let same : j + 0 ≡ j = omega arith in ap (walk_to limits places p i d) same ∙ never
  walk-over j (suc n) order within never =
      let before : walk_to limits places p i d (j + n) ≡ None = walk-over j n order (omega arith) never in
      ap (walk_to limits places p i d) (omega arith)
      ∙ (walk-more (j + n) (omega arith) (omega arith)
      ∙ ap (λ o. option_and_then (λ at. stepped limits at (get_or places (j + n - 1) d).at.stop) o) before)

  module _ (q : Stop) where
    -- if the vehicle cannot reach place j, no delivery at it or at a later place keeps the limits
    pub pair-over : (j k : ℕ) → i < j → j ≤ k → k ≤ length places → walk_to limits places p i d j ≡ None → with_pair limits places p q i k d ≡ None
    pair-over j k order following within never =
        let there : walk_to limits places p i d k ≡ None =
        subst (λ m. walk_to limits places p i d m ≡ None) (omega arith) (walk-over j (k - j) order (omega arith) never) in
        ap (λ o. option_and_then (λ at. with_stop limits at q (get_or places (k - 1) d)) o) there

    pub pair-price_if_feasible : (j : ℕ) (r : Ride) (a : Stop) → walk_to limits places p i d j ≡ Some (ride_at r a)
        → with_pair limits places p q i j d
        ≡ price_if_feasible limits r a.service (distance a q) q (distance q (get_or places (j - 1) d).at.stop) (get_or places (j - 1) d)
    pair-price_if_feasible j r a here = ap (λ o. option_and_then (λ at. with_stop limits at q (get_or places (j - 1) d)) o) here

-- ---- the legs of the table
pub linked-at : (places : List PlaceSlack) → AreLinked places → (j : ℕ) (d : PlaceSlack) → 1 ≤ j → j < length places
    → (get_or places j d).at.distance
    ≡ (get_or places (j - 1) d).at.distance + distance (get_or places (j - 1) d).at.stop (get_or places j d).at.stop
linked-at places linked j d one within =
    let next : j - 1 + 1 ≡ j = omega arith in
    subst (λ k. (get_or places k d).at.distance
    ≡ (get_or places (j - 1) d).at.distance + distance (get_or places (j - 1) d).at.stop (get_or places k d).at.stop) next
    (linked (j - 1) d (omega arith))

-- ---- the loop over the delivery's places
module _ (limits : Limits) (places : List PlaceSlack) (p q : Stop) (i : ℕ) (d : PlaceSlack) where
  module _ (t : Trip) (before : PlaceSlack) (to onward : ℕ) (is_limits : t.limits ≡ limits) (is_p : t.pickup ≡ p)
      (is_before : before ≡ get_or places (i - 1) d) (is_to : to ≡ distance before.at.stop p) where
    first : walk_to limits places p i d (i + 1) ≡ option_map (λ r. ride_at r p) (ridden t.limits (ride_of before.at) before.at.stop.service to t.pickup)
    first = first-ride limits places p i d before to _ is_before is_to (rw (is_limits, is_p) refl)

    pub underway-begin : (on : LoadedRide) → t.delivery ≡ q → t.between_stops ≡ distance t.pickup t.delivery
        → onward ≡ distance (get_or places i d).at.stop p → Some on ≡ picked_up t before.at to onward
        → IsLoadedRide limits places p q i (i + 1) d on
    underway-begin on is_q is_across is_onward made =
        let from = option_map-some _ _ on made in
        record {
          stop = p;
          walk = first ∙ (ap (λ o. option_map (λ r. ride_at r p) o) from.1 ∙ ap (λ (w : LoadedRide). Some (ride_at w.ride p)) (sym from.2));
          service = ap (λ w. w.service) from.2 ∙ ap (λ (x : Stop). x.service) is_p;
          to_delivery = ap (λ w. w.to_delivery) from.2 ∙ (is_across ∙ rw (is_p, is_q) refl);
          onward =
              ap (λ w. w.onward) from.2
              ∙ (is_onward
              ∙ (distance-back (get_or places i d).at.stop p ∙ ap (λ k. distance p (get_or places k d).at.stop) (sym (omega arith))));
        }

    -- if the pickup exceeds a limit, there is no place for the delivery
    pub not-of_first_stop : None ≡ picked_up t before.at to onward → (j : ℕ) → i + 1 ≤ j → j ≤ length places → with_pair limits places p q i j d ≡ None
    not-of_first_stop made j following last =
        pair-over limits places p i d q (i + 1) j (omega arith) following last
        (first ∙ ap (λ o. option_map (λ r. ride_at r p) o) (option_map-none _ _ made))

  module _ (j : ℕ) (on : LoadedRide) (order : i < j) (within : j ≤ length places) where
    walk-next : IsLoadedRide limits places p q i j d on
        → walk_to limits places p i d (j + 1)
        ≡ option_map (λ r. ride_at r (get_or places (j - 1) d).at.stop)
        (ridden limits on.ride on.service on.onward (get_or places (j - 1) d).at.stop)
    walk-next is =
        next-ride limits places p i d j on.ride is.stop (get_or places (j - 1) d) on.onward _ order within is.walk refl is.onward
        (rw is.service refl)

    -- a vehicle that continues is at the next place, which is not the last
    gone : (to : ℕ) (next : LoadedRide) → Some next ≡ advanced limits on places j to d
        → (j < length places) × (ridden limits on.ride on.service on.onward (get_or places (j - 1) d).at.stop ≡ Some next.ride)
        × (next ≡ advanced_to next.ride places j to d)
    gone to next made =
        let ways = cond_map _ _ _ next made in (
          ltb-true _ _ ways.0,
          ways.2 ∙ ap (λ (w : LoadedRide). Some w.ride) (sym ways.3),
          ways.3
              ∙ ap (λ (w : LoadedRide). advanced_to w.ride places j to d) (sym ways.3),
        )

    pub underway-more : IsLoadedRide limits places p q i j d on → AreLinked places → 1 ≤ i → (to : ℕ) (next : LoadedRide)
        → to ≡ distance (get_or places (j - 1) d).at.stop q → Some next ≡ advanced limits on places j to d
        → IsLoadedRide limits places p q i (j + 1) d next
    underway-more is linked one to next is_to made =
        let after = gone to next made in
        let table_leg : (get_or places j d).at.distance - (get_or places (j - 1) d).at.distance
        ≡ distance (get_or places (j - 1) d).at.stop (get_or places j d).at.stop =
        omega (arith, linked-at places linked j d (omega arith) after.0) in
        record {
          stop = (get_or places (j - 1) d).at.stop;
          walk = walk-next is ∙ ap (λ o. option_map (λ r. ride_at r (get_or places (j - 1) d).at.stop) o) after.1;
          service = ap (λ w. w.service) after.2;
          to_delivery = ap (λ w. w.to_delivery) after.2 ∙ is_to;
          onward = ap (λ w. w.onward) after.2 ∙ (table_leg ∙ ap (λ k. distance (get_or places (j - 1) d).at.stop (get_or places k d).at.stop) (sym (omega arith)));
        }

    pub not-last : (to : ℕ) (next : LoadedRide) → Some next ≡ advanced limits on places j to d → j < length places
    not-last to next made = (gone to next made).0

    pub near-more : IsNearLeg places j d on → AreLinked places → 1 ≤ i → (to : ℕ) (next : LoadedRide) → to ≤ 2 ^ 32
        → Some next ≡ advanced limits on places j to d → IsNearRide on.ride on.onward next.ride → IsNearLeg places (j + 1) d next
    near-more is linked one to next is_to made near =
        let after = gone to next made in
        let onward : next.onward ≡ (get_or places j d).at.distance - (get_or places (j - 1) d).at.distance = ap (λ w. w.onward) after.2 in
        let is_to' : next.to_delivery ≡ to = ap (λ w. w.to_delivery) after.2 in
        let here : (get_or places (j + 1 - 1) d).at.distance ≡ (get_or places j d).at.distance =
        (let e : j + 1 - 1 ≡ j = omega arith in ap (λ k. (get_or places k d).at.distance) e) in
        let link = linked-at places linked j d (omega arith) after.0 in
        let start = is.start in
        let load = is.load in
        record { start = omega arith; load = omega arith; distance = omega arith; to_delivery = omega arith }

    -- if the vehicle does not continue, there is no later place of the delivery
    pub over : IsLoadedRide limits places p q i j d on → (to : ℕ) → None ≡ advanced limits on places j to d → (k : ℕ) → j < k
        → k ≤ length places → with_pair limits places p q i k d ≡ None
    over is to made k following last =
        let stays = option_map-none _ _ (made ∙ cond-true _ _ _ (lt-ltb j (length places) (omega arith))) in
        pair-over limits places p i d q (j + 1) k (omega arith) (omega arith) last
        (walk-next is ∙ ap (λ o. option_map (λ r. ride_at r (get_or places (j - 1) d).at.stop) o) stays)

    -- the loop offers what the delivery at place j adds
    pub offered-here : IsLoadedRide limits places p q i j d on → (best next : Best) (tail : PlaceSlack) (from : ℕ)
        → tail ≡ get_or places (j - 1) d → from ≡ distance tail.at.stop q
        → next ≡ offered best (price_below best.bound limits on.ride on.service on.to_delivery q from tail) i j
        → next ≡ offered best (with_pair limits places p q i j d) i j
    offered-here is best next tail from is_tail is_from made =
        let cheap = offer-below best (can_visit limits on.ride on.service on.to_delivery q from tail) (price on.ride on.to_delivery from tail) i j in
        let back : from ≡ distance q tail.at.stop = is_from ∙ distance-back tail.at.stop q in
        let ways : price_if_feasible limits on.ride on.service on.to_delivery q from tail
        ≡ price_if_feasible limits on.ride is.stop.service (distance is.stop q) q (distance q tail.at.stop) tail =
        rw (is.service, is.to_delivery, back) refl in
        let there : price_if_feasible limits on.ride is.stop.service (distance is.stop q) q (distance q tail.at.stop) tail
        ≡ price_if_feasible limits on.ride is.stop.service (distance is.stop q) q (distance q (get_or places (j - 1) d).at.stop)
        (get_or places (j - 1) d) =
        ap (λ (e : PlaceSlack). price_if_feasible limits on.ride is.stop.service (distance is.stop q) q (distance q e.at.stop) e) is_tail in
        made ∙ (cheap ∙ ap (λ o. offered best o i j) (ways ∙ (there ∙ sym (pair-price_if_feasible limits places p i d q j on.ride is.stop is.walk))))

-- the numbers stay small enough that sums do not overflow
pub near-small : (places : List PlaceSlack) (j : ℕ) (d : PlaceSlack) (on : LoadedRide) → All IsSmallRow places → length places ≤ 40003 → 1 ≤ j
    → j ≤ length places → IsNearLeg places j d on → IsSmallRide (2 ^ 56) on.ride × (on.onward ≤ 2 ^ 56)
near-small places j d on small few one within near =
    let place = (small (j - 1) d (omega arith)).at.distance in
    let start = near.start in
    let load = near.load in
    (record { start = omega arith; load = omega arith; distance = omega arith }, omega arith)

-- ---- a single stop
pub offered-single : (limits : Limits) (places : List PlaceSlack) (s : Stop) (i : ℕ) (d : PlaceSlack) (best next : Best)
    → next ≡ offered best (served_single best.bound limits places s i d) i i → next ≡ offered best (with_single limits places s i d) i i
offered-single limits places s i d best next made =
    let before = get_or places (i - 1) d in
    let tail = get_or places i d in
    let cheap =
    offer-below best
    (can_visit limits (ride_of before.at) before.at.stop.service (distance before.at.stop s) s (distance tail.at.stop s) tail)
    (price (ride_of before.at) (distance before.at.stop s) (distance tail.at.stop s) tail) i i in
    made ∙ (cheap ∙ rw (distance-back tail.at.stop s) refl)

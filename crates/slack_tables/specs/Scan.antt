-- The insertions that a scan over the places of a table considers.
use Rattle.std.specs.Prelude.{◌^◌, nat_lt, slice_index_or, ◌≡◌, ℕ, ◌+◌, ◌-◌, ◌<◌, ◌≤◌, ℤ, ◌≤ℤ◌, ◌<ℤ◌, List, length, Option, Some, None, int_lt, if◌then◌else◌}
use Rattle.std.specs.Option.{option_map}
use Rattle.plan_types.specs.declared.requests.Stop.{Stop}
use Rattle.nint_dist.specs.Distance.{distance}
use Rattle.slack_tables.specs.DriveSteps.{with_single, with_pair}
use Rattle.slack_tables.specs.Ride.{ride_of, ridden, price_below, IsSmallRide}
use Rattle.slack_tables.specs.declared.progress.Limits.{Limits}
use Rattle.slack_tables.specs.declared.progress.Progress.{Progress}
use Rattle.slack_tables.specs.declared.progress.PlaceSlack.{PlaceSlack}
use Rattle.slack_tables.specs.declared.ride.Ride.{Ride}
use Rattle.slack_tables.specs.declared.scan.PricedInsertion.{PricedInsertion}
use Rattle.slack_tables.specs.declared.scan.Best.{Best}
use Rattle.slack_tables.specs.declared.scan.Trip.{Trip}
use Rattle.slack_tables.specs.declared.scan.LoadedRide.{LoadedRide}

-- a single inserted at this place
pub record InsertsSingle (limits : Limits) (places : List PlaceSlack) (s : Stop) (kept : ℕ) (d : PlaceSlack) (a : PricedInsertion) : Type 0 where
  pub following : kept < a.pickup
  pub within : a.pickup < length places
  pub one : a.delivery ≡ a.pickup
  pub added : with_single limits places s a.pickup d ≡ Some a.distance

-- the insertion has this property and adds less than the bound
abbrev pub CostsLess : (PricedInsertion → Type 0) → ℤ → PricedInsertion → Type 0
CostsLess Is below a = Is a × (a.distance <ℤ below)

abbrev pub AddsSingle : Limits → List PlaceSlack → Stop → ℕ → ℤ → PlaceSlack → PricedInsertion → Type 0
AddsSingle limits places s kept below d a = CostsLess (InsertsSingle limits places s kept d) below a

-- the distance that the single adds at place i, if it is less than the bound and the limits are kept
abbrev pub served_single : ℤ → Limits → List PlaceSlack → Stop → ℕ → PlaceSlack → Option ℤ
served_single below limits places s i d =
    let before = slice_index_or places (i - 1) d in let tail = slice_index_or places i d in
    price_below below limits (ride_of before.at) before.at.stop.service (distance before.at.stop s) s (distance tail.at.stop s) tail

-- a pair inserted at these places
pub record InsertsPair (limits : Limits) (places : List PlaceSlack) (p q : Stop) (kept : ℕ) (d : PlaceSlack) (a : PricedInsertion) : Type 0 where
  pub following : kept < a.pickup
  pub order : a.pickup < a.delivery
  pub within : a.delivery ≤ length places
  pub added : with_pair limits places p q a.pickup a.delivery d ≡ Some a.distance

abbrev pub AddsPair : Limits → List PlaceSlack → Stop → Stop → ℕ → ℤ → PlaceSlack → PricedInsertion → Type 0
AddsPair limits places p q kept below d a = CostsLess (InsertsPair limits places p q kept d) below a

-- a delivery inserted after a pickup at place i
pub record InsertsDelivery (limits : Limits) (places : List PlaceSlack) (p q : Stop) (i : ℕ) (d : PlaceSlack) (a : PricedInsertion) : Type 0 where
  pub here : a.pickup ≡ i
  pub order : i < a.delivery
  pub within : a.delivery ≤ length places
  pub added : with_pair limits places p q i a.delivery d ≡ Some a.distance

abbrev pub AddsDelivery : Limits → List PlaceSlack → Stop → Stop → ℕ → ℤ → PlaceSlack → PricedInsertion → Type 0
AddsDelivery limits places p q i below d a = CostsLess (InsertsDelivery limits places p q i d) below a

-- with the pickup at place i, the delivery adds at least the bound at each of its places
abbrev pub AreTooExpensive : Limits → List PlaceSlack → Stop → Stop → ℕ → ℤ → Type 0
AreTooExpensive limits places p q i bound = (j : ℕ) (x : ℤ) (d : PlaceSlack) → i + 1 ≤ j → j ≤ length places → with_pair limits places p q i j d ≡ Some x → bound ≤ℤ x

-- the best before any insertion is found
abbrev pub none_below : ℤ → Best
none_below bound = record { bound = bound; found = None }

-- the best with an added distance recorded, if it is less than all before
abbrev pub offered : Best → Option ℤ → ℕ → ℕ → Best
offered best None i j = best
offered best (Some x) i j = if int_lt x best.bound then record { bound = x; found = Some (record { distance = x; pickup = i; delivery = j }) } else best

-- the best with an insertion that was found below the bound
abbrev pub accepted : Best → Option PricedInsertion → Best
accepted best None = best
accepted best (Some a) = record { bound = a.distance; found = Some a }

-- the state at the pickup if it is within the limits
abbrev pub picked_up : Trip → Progress → ℕ → ℕ → Option LoadedRide
picked_up t before to onward =
    option_map (λ r. record { ride = r; service = t.pickup.service; to_delivery = t.between_stops; onward = onward })
    (ridden t.limits (ride_of before) before.stop.service to t.pickup)

pub record IsNearLoadedRide (on : LoadedRide) : Type 0 where
  pub ride : IsSmallRide (2 ^ 51) on.ride
  pub to_delivery : on.to_delivery ≤ 2 ^ 32
  pub onward : on.onward ≤ 2 ^ 32

-- the state at the next place of the table
abbrev pub advanced_to : Ride → List PlaceSlack → ℕ → ℕ → PlaceSlack → LoadedRide
advanced_to r places j to d =
    record {
      ride = r;
      service = (slice_index_or places (j - 1) d).at.stop.service;
      to_delivery = to;
      onward = (slice_index_or places j d).at.distance - (slice_index_or places (j - 1) d).at.distance;
    }

-- the state at the next place of the table, if the place is within the limits and not the last
abbrev pub advanced : Limits → LoadedRide → List PlaceSlack → ℕ → ℕ → PlaceSlack → Option LoadedRide
advanced limits on places j to d =
    if nat_lt j (length places)
    then option_map (λ r. advanced_to r places j to d) (ridden limits on.ride on.service on.onward (slice_index_or places (j - 1) d).at.stop)
    else None

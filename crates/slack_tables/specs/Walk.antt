-- A vehicle that continues along the places of a table with a pickup on board.
use Rattle.std.specs.Prelude.{◌≡◌, ℕ, ◌+◌, ◌-◌, ◌*◌, ◌^◌, ◌≤◌, ℤ, unsigned_abs, All, List, length, slice_index_or, Some}
use Rattle.plan_types.specs.Limits.{IsVisit}
use Rattle.plan_types.specs.declared.requests.Stop.{Stop}
use Rattle.nint_dist.specs.Distance.{distance}
use Rattle.slack_tables.specs.ClosedPlaces.{AreTight}
use Rattle.slack_tables.specs.DriveSteps.{IsSmallRow}
use Rattle.slack_tables.specs.Legs.{AreLeastDetours, AreLinked, AreAscending}
use Rattle.slack_tables.specs.Ride.{ride_at}
use Rattle.slack_tables.specs.declared.progress.Limits.{Limits}
use Rattle.slack_tables.specs.declared.progress.PlaceSlack.{PlaceSlack}
use Rattle.slack_tables.specs.declared.scan.Trip.{Trip}
use Rattle.slack_tables.specs.declared.scan.LoadedRide.{LoadedRide}
unfoldable pub use Rattle.slack_tables.specs.DriveSteps.{walk_to}

-- the stops of a pair, and the distance between them
pub record IsTrip (t : Trip) : Type 0 where
  pub pickup : IsVisit t.pickup
  pub delivery : IsVisit t.delivery
  pub between_stops : t.between_stops ≡ distance t.pickup t.delivery
  pub bound : t.between_stops ≤ 2 ^ 32

-- a scan that inserts the pair into a route with these places
pub record IsScan (t : Trip) (places : List PlaceSlack) : Type 0 where
  pub trip : IsTrip t
  pub small : All IsSmallRow places
  pub linked : AreLinked places
  pub ascending : AreAscending places
  pub tight : AreTight t.limits.kind places
  pub few : length places ≤ 40003

-- a scan for which the least detours to the delivery are known from place `first` on
pub record IsScanFrom (t : Trip) (places : List PlaceSlack) (first : ℕ) (legs : List ℤ) : Type 0 where
  pub over : IsScan t places
  pub least : AreLeastDetours first legs places t.delivery

-- the state before place j - 1 of the table, with the pickup on board
pub record IsLoadedRide (limits : Limits) (places : List PlaceSlack) (p q : Stop) (i j : ℕ) (d : PlaceSlack) (on : LoadedRide) : Type 0 where
  pub stop : Stop
  pub walk : walk_to limits places p i d j ≡ Some (ride_at on.ride stop)
  pub service : on.service ≡ stop.service
  pub to_delivery : on.to_delivery ≡ distance stop q
  pub onward : on.onward ≡ distance stop (slice_index_or places (j - 1) d).at.stop

-- bounds on the state before place j - 1 of the table
pub record IsNearLeg (places : List PlaceSlack) (j : ℕ) (d : PlaceSlack) (on : LoadedRide) : Type 0 where
  pub start : on.ride.start + on.onward ≤ 2 ^ 52 + j * 2 ^ 33 + (slice_index_or places (j - 1) d).at.distance
  pub load : unsigned_abs on.ride.load ≤ 2 ^ 52 + j * 2 ^ 33
  pub distance : on.ride.distance + on.onward ≤ 2 ^ 52 + (slice_index_or places (j - 1) d).at.distance
  pub to_delivery : on.to_delivery ≤ 2 ^ 32

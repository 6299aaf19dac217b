-- A vehicle at the stops of a route, one after another, and the distance that an inserted request adds. These
-- definitions restate the steps of `Ride` for the lemmas on routes.
use Rattle.std.specs.Prelude.{ℕ, zero, suc, ◌+◌, ◌-◌, ◌^◌, ◌≤◌, max, ℤ, unsigned_abs, List, slice_index_or, Option, Some, None, if◌then◌else◌}
use Rattle.std.specs.Option.{option_and_then}
use Rattle.plan_types.specs.declared.limits.TheConstants.{MAX_TIME}
use Rattle.plan_types.specs.Limits.{IsVisit}
use Rattle.plan_types.specs.declared.requests.Stop.{Stop}
use Rattle.nint_dist.specs.Distance.{distance}
use Rattle.slack_tables.specs.Ride.{ride_at, ride_of, driven, is_within_limits, price_if_feasible}
use Rattle.slack_tables.specs.declared.progress.Limits.{Limits}
use Rattle.slack_tables.specs.declared.progress.Progress.{Progress}
use Rattle.slack_tables.specs.declared.progress.PlaceSlack.{PlaceSlack}
pub use Rattle.slack_tables.specs.Ride.{is_in_time}

-- the state after the leg to another stop
abbrev pub driven_on : Progress → Stop → Progress
driven_on from s = ride_at (driven (ride_of from) from.stop.service (distance from.stop s) s) s

-- the state at the next stop if it is within the limits
abbrev pub stepped : Limits → Progress → Stop → Option Progress
stepped limits from s = if is_within_limits limits (ride_of (driven_on from s)) s then Some (driven_on from s) else None

-- the state after a pickup inserted after place i - 1 of the old route, and then after the next n places of
-- that route
abbrev pub walked : Limits → List PlaceSlack → Stop → ℕ → PlaceSlack → ℕ → Option Progress
walked limits places p i d zero = stepped limits (slice_index_or places (i - 1) d).at p
walked limits places p i d (suc n) = option_and_then (λ at. stepped limits at (slice_index_or places (i + n) d).at.stop) (walked limits places p i d n)

-- the state after a pickup inserted after place i - 1, and then the places of the old route up to place j - 2
unfoldable pub walk_to : Limits → List PlaceSlack → Stop → ℕ → PlaceSlack → ℕ → Option Progress
walk_to limits places p i d j = walked limits places p i d (j - (i + 1))

-- the distance added by a stop that comes next, followed by a place of the old route and all later ones
abbrev pub with_stop : Limits → Progress → Stop → PlaceSlack → Option ℤ
with_stop limits from s tail = price_if_feasible limits (ride_of from) from.stop.service (distance from.stop s) s (distance s tail.at.stop) tail

-- the distance added by a single at place i
abbrev pub with_single : Limits → List PlaceSlack → Stop → ℕ → PlaceSlack → Option ℤ
with_single limits places s i d = with_stop limits (slice_index_or places (i - 1) d).at s (slice_index_or places i d)

-- the distance added by a pair with its pickup at place i and its delivery at place j of the new route
abbrev pub with_pair : Limits → List PlaceSlack → Stop → Stop → ℕ → ℕ → PlaceSlack → Option ℤ
with_pair limits places p q i j d = option_and_then (λ at. with_stop limits at q (slice_index_or places (j - 1) d)) (walk_to limits places p i d j)

-- bounds on the state at the next stop
pub record IsNear (a b : Progress) : Type 0 where
  pub visit : IsVisit b.stop
  pub start : b.start ≤ max a.start MAX_TIME + 3828427
  pub load : unsigned_abs b.load ≤ unsigned_abs a.load + 2 ^ 31
  pub distance : b.distance ≤ a.distance + 2828427

-- small enough that sums of starts, loads and distances do not overflow
pub record IsSmall (bound : ℕ) (a : Progress) : Type 0 where
  pub visit : IsVisit a.stop
  pub start : a.start ≤ bound
  pub load : unsigned_abs a.load ≤ bound
  pub distance : a.distance ≤ bound

pub record IsSmallRow (e : PlaceSlack) : Type 0 where
  pub at : IsSmall (2 ^ 50) e.at
  pub max_load : unsigned_abs e.max_load ≤ 2 ^ 50

-- The step of a vehicle to a stop along a leg of a given length, and the distance that a stop adds before a
-- place of a table. These are the steps of the code, for the scan, for one insertion and for building tables.
use Rattle.std.specs.Prelude.{ℕ, ◌+◌, ◌^◌, ◌≤◌, max, nat_le, ℤ, pos, ◌+ℤ◌, ◌-ℤ◌}
use Rattle.std.specs.Prelude.{int_le, int_lt, unsigned_abs, Bool, true, ◌&&◌, Option, Some, None, if◌then◌else◌}
use Rattle.plan_types.specs.declared.requests.Stop.{Stop}
use Rattle.plan_types.specs.declared.requests.Kind.{Kind}
use Rattle.plan_types.specs.declared.requests.Kind.TheVariants.{LiLim, Vrp}
use Rattle.slack_tables.specs.declared.progress.Limits.{Limits}
use Rattle.slack_tables.specs.declared.progress.Progress.{Progress}
use Rattle.slack_tables.specs.declared.progress.PlaceSlack.{PlaceSlack}
use Rattle.slack_tables.specs.declared.ride.Ride.{Ride}

-- the state at this stop
abbrev pub ride_at : Ride → Stop → Progress
ride_at r s = record { stop = s; start = r.start; load = r.load; distance = r.distance }

abbrev pub ride_of : Progress → Ride
ride_of a = record { start = a.start; load = a.load; distance = a.distance }

-- the state after the service and the leg to another stop; a vehicle that arrives early waits
abbrev pub driven : Ride → ℕ → ℕ → Stop → Ride
driven r service leg s = record { start = max (r.start + service + leg) s.earliest; load = r.load +ℤ s.demand; distance = r.distance + leg }

abbrev pub is_in_time : Kind → ℕ → ℕ → Bool
is_in_time LiLim start latest = nat_le start latest
is_in_time Vrp start latest = true

-- whether the load and the start are within the limits at this stop
abbrev pub is_within_limits : Limits → Ride → Stop → Bool
is_within_limits limits r s = int_le r.load (pos limits.capacity) && is_in_time limits.kind r.start s.latest

-- the state at the next stop if it is within the limits
abbrev pub ridden : Limits → Ride → ℕ → ℕ → Stop → Option Ride
ridden limits r service leg s = if is_within_limits limits (driven r service leg s) s then Some (driven r service leg s) else None

-- whether the load and the start leave all later places of the old route within the limits
abbrev pub tail_is_within_limits : Limits → Ride → PlaceSlack → Bool
tail_is_within_limits limits r tail = int_le (r.load -ℤ tail.at.load +ℤ tail.max_load) (pos limits.capacity) && is_in_time limits.kind r.start tail.latest_start

abbrev pub continues_within_limits : Limits → Ride → ℕ → ℕ → PlaceSlack → Bool
continues_within_limits limits r service leg tail = is_within_limits limits (driven r service leg tail.at.stop) tail.at.stop && tail_is_within_limits limits (driven r service leg tail.at.stop) tail

-- whether a stop that comes next, the place of the old route after it, and all later places are within the
-- limits
abbrev pub can_visit : Limits → Ride → ℕ → ℕ → Stop → ℕ → PlaceSlack → Bool
can_visit limits r service to s from tail = is_within_limits limits (driven r service to s) s && continues_within_limits limits (driven r service to s) s.service from tail

-- the distance that a stop before a place of the old route adds
abbrev pub price : Ride → ℕ → ℕ → PlaceSlack → ℤ
price r to from tail = pos (r.distance + to + from) -ℤ pos tail.at.distance

-- the distance added if the limits are kept; `price_below` requires it to be below a bound, too
abbrev pub price_if_feasible : Limits → Ride → ℕ → ℕ → Stop → ℕ → PlaceSlack → Option ℤ
price_if_feasible limits r service to s from tail = if can_visit limits r service to s from tail then Some (price r to from tail) else None

abbrev pub price_below : ℤ → Limits → Ride → ℕ → ℕ → Stop → ℕ → PlaceSlack → Option ℤ
price_below below limits r service to s from tail = if int_lt (price r to from tail) below then price_if_feasible limits r service to s from tail else None

-- small enough that sums do not overflow
pub record IsSmallRide (bound : ℕ) (r : Ride) : Type 0 where
  pub start : r.start ≤ bound
  pub load : unsigned_abs r.load ≤ bound
  pub distance : r.distance ≤ bound

-- bounds on the state at the next stop
pub record IsNearRide (a : Ride) (leg : ℕ) (b : Ride) : Type 0 where
  pub start : b.start ≤ a.start + leg + 2 ^ 33
  pub load : unsigned_abs b.load ≤ unsigned_abs a.load + 2 ^ 31
  pub distance : b.distance ≤ a.distance + leg

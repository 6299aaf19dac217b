-- The limits of the numbers of a problem.
use Rattle.std.specs.Prelude.{◌≡◌, ℕ, ◌≤◌, ℤ, pos, neg_ℤ, ◌≤ℤ◌}
use Rattle.plan_types.specs.declared.limits.TheConstants.{MAX_CAPACITY, MAX_COORDINATE, MAX_DEMAND, MAX_FLEET, MAX_SERVICE, MAX_STOP_NUMBER, MAX_TIME}
use Rattle.plan_types.specs.declared.requests.Stop.{Stop}

-- a coordinate, in -1,000,000..1,000,000
abbrev pub IsCoordinate : ℤ → Type 0
IsCoordinate x = (neg_ℤ MAX_COORDINATE ≤ℤ x) × (x ≤ℤ MAX_COORDINATE)

-- a stop whose place, time window and service keep their limits
pub record IsVisit (s : Stop) : Type 0 where
  pub x : IsCoordinate s.x
  pub y : IsCoordinate s.y
  pub window : s.earliest ≤ s.latest
  pub latest : s.latest ≤ MAX_TIME
  pub service : s.service ≤ MAX_SERVICE

-- a customer's stop within its limits, with a number in 1..40,000
pub record IsStop (s : Stop) : Type 0 where
  pub from_one : 1 ≤ s.number
  pub to_max : s.number ≤ MAX_STOP_NUMBER
  pub visit : IsVisit s

-- the depot, where each route begins and ends: number, demand and service are 0
pub record IsDepot (s : Stop) : Type 0 where
  pub number : s.number ≡ 0
  pub demand : s.demand ≡ pos 0
  pub service : s.service ≡ 0
  pub visit : IsVisit s

-- the demand of a single stop or of a pickup, in 0..1,000,000
abbrev pub IsDemand : ℤ → Type 0
IsDemand q = (pos 0 ≤ℤ q) × (q ≤ℤ MAX_DEMAND)

-- the capacity of a vehicle, at most 1,000,000
abbrev pub IsCapacity : ℕ → Type 0
IsCapacity q = q ≤ MAX_CAPACITY

-- the number of vehicles, in 1..40,000
abbrev pub IsFleet : ℕ → Type 0
IsFleet k = (1 ≤ k) × (k ≤ MAX_FLEET)

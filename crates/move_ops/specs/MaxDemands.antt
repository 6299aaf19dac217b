-- The greatest demand that a single may have in each vehicle.
use Rattle.std.specs.Prelude.{◌≡◌, ◌-◌, ℕ, ℤ, List, Some, slice_get, slice_set}
use Rattle.slack_tables.specs.Course.{Course}
use Rattle.slack_tables.specs.FitsNowhere.{IsMaxDemand}

-- for each vehicle with an entry in `max_demands`: a single with a demand above the entry fits nowhere into the
-- vehicle's route
pub record AreMaxDemands (courses : List Course) (max_demands : List ℤ) : Type 0 where
  pub each : (k : ℕ) (c : Course) (x : ℤ) → slice_get courses k ≡ Some c → slice_get max_demands k ≡ Some x → IsMaxDemand c x

-- the vehicle's entry in the list, if it has one, is now the greatest demand for course c
abbrev pub IsMaxDemandSet : ℕ → Course → List ℤ → List ℤ → Type 0
IsMaxDemandSet v c old new = (x : ℤ) × IsMaxDemand c x × (new ≡ slice_set old (v - 1) x)

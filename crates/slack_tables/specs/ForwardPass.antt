-- The places of a route after the forward pass.
use Rattle.std.specs.Prelude.{◌≡◌, ℕ, ◌+◌, ◌*◌, ◌^◌, ◌<◌, ◌≤◌, pos, unsigned_abs, List, length, slice_index_or}
use Rattle.plan_types.specs.declared.limits.TheConstants.{MAX_TIME}
use Rattle.plan_types.specs.Limits.{IsVisit}
use Rattle.plan_types.specs.declared.requests.Stop.{Stop}
use Rattle.slack_tables.specs.DriveSteps.{IsSmallRow}
use Rattle.slack_tables.specs.Places.{IsAt}
use Rattle.slack_tables.specs.declared.progress.Progress.{Progress}
use Rattle.slack_tables.specs.declared.progress.PlaceSlack.{PlaceSlack}

-- the state at the depot, before the vehicle departs
abbrev pub at_depot : Stop → Progress
at_depot depot = record { stop = depot; start = depot.earliest; load = pos 0; distance = 0 }

-- a place with nothing known about later places
abbrev pub forward_row : Progress → PlaceSlack
forward_row a = record { at = a; latest_start = 18446744073709551615; max_load = a.load }

-- bounds on the state at place k
pub record IsWithin (k : ℕ) (a : Progress) : Type 0 where
  pub visit : IsVisit a.stop
  pub start : a.start ≤ MAX_TIME + k * 3828427
  pub load : unsigned_abs a.load ≤ k * 2 ^ 31
  pub distance : a.distance ≤ k * 2828427

-- the entry of place k after the forward pass over these stops
pub record IsForwardRow (stops : ℕ → Stop) (k : ℕ) (e : PlaceSlack) : Type 0 where
  pub at : IsAt stops k e.at
  pub latest_start : e.latest_start ≡ 18446744073709551615
  pub max_load : e.max_load ≡ e.at.load
  pub within : IsWithin k e.at
  pub small : IsSmallRow e

abbrev pub AreForwardRows : (ℕ → Stop) → List PlaceSlack → Type 0
AreForwardRows stops places = (k : ℕ) (d : PlaceSlack) → k < length places → IsForwardRow stops k (slice_index_or places k d)

-- each entry before place n is as after the forward pass over these stops
pub record AreForwardRowsTo (stops : ℕ → Stop) (n : ℕ) (places : List PlaceSlack) : Type 0 where
  pub each : (k : ℕ) (d : PlaceSlack) → k < n → k < length places → IsForwardRow stops k (slice_index_or places k d)

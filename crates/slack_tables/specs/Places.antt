-- The values of a place in a table.
use Rattle.std.specs.Prelude.{◌≡◌, ℕ, ◌^◌, ◌<◌, ◌≤◌, ◌↔◌, ℤ, ◌≤ℤ◌}
use Rattle.plan_types.specs.declared.limits.TheConstants.{MAX_TIME}
use Rattle.plan_types.specs.declared.requests.Stop.{Stop}
use Rattle.plan_types.specs.declared.requests.Kind.{Kind}
use Rattle.plan_types.specs.declared.requests.Kind.TheVariants.{LiLim}
use Rattle.slack_tables.specs.Along.{start_along, load_along, length_along, MeetsLaterWindowsAlong}
use Rattle.slack_tables.specs.declared.progress.Progress.{Progress}
use Rattle.slack_tables.specs.declared.progress.PlaceSlack.{PlaceSlack}

-- a is the state at place k of these stops
pub record IsAt (stops : ℕ → Stop) (k : ℕ) (a : Progress) : Type 0 where
  pub stop : a.stop ≡ stops k
  pub start : a.start ≡ start_along stops k
  pub load : a.load ≡ load_along stops k
  pub distance : a.distance ≡ length_along stops k

-- the values of place k, if `last` is the place of the return; there any start will do, so `latest_start` is at
-- least 2^60; at the other places it is far below 2^60
pub record IsKnown (kind : Kind) (stops : ℕ → Stop) (last k : ℕ) (e : PlaceSlack) : Type 0 where
  pub at : IsAt stops k e.at
  pub latest_start : kind ≡ LiLim → (t : ℕ) → t ≤ 2 ^ 60 → MeetsLaterWindowsAlong kind stops last k t ↔ (t ≤ e.latest_start)
  pub limit : kind ≡ LiLim → k < last → e.latest_start ≤ MAX_TIME
  pub max_load : (c : ℤ) → (e.max_load ≤ℤ c) ↔ ((m : ℕ) → k ≤ m → m ≤ last → load_along stops m ≤ℤ c)

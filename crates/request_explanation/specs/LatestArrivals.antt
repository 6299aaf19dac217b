-- The latest arrival at a row of a route: a vehicle that arrives later is late at this row or at a later one.
use Rattle.std.specs.Prelude.{◌≡◌, ℕ, ◌+◌, ◌-◌, ◌≤◌, ◌<◌, min, ℤ, true, List, [], ◌∷◌, drop, length, slice_index_or}
use Rattle.std.specs.List.{list_any}
use Rattle.plan_explain.specs.declared.rows.Row.{Row}
use Rattle.request_explanation.specs.LimitViolations.{is_late}
use Rattle.request_explanation.specs.MovedRows.{moved_from}

-- the rows if the vehicle arrives at the first of them at the time `arrival`, and each load changes by `change`
abbrev pub rows_from : ℕ → ℤ → List Row → List Row
rows_from arrival change [] = []
rows_from arrival change (r ∷ rows) = moved_from arrival r.arrival change (r ∷ rows)

-- a vehicle that arrives later than `latest` at the row with this index is late at this row or at a later one
abbrev pub IsLatestArrival : List Row → ℕ → ℕ → Type 0
IsLatestArrival rows k latest = (arrival : ℕ) (change : ℤ) → latest < arrival → list_any is_late (rows_from arrival change (drop k rows)) ≡ true

-- `latest` is at least the smaller of the row's own limit, and the latest arrival at the next row less the time
-- from this row's start to that arrival. So if a vehicle arrives later than `latest` by some time, it is late
-- by at least as much at this row, or arrives at least as much too late at the next.
pub record IsDue (rows : List Row) (latest_arrivals : List ℕ) (k latest : ℕ) : Type 0 where
  pub last : (d : Row) → k + 1 ≡ length rows → (slice_index_or rows k d).latest ≤ latest
  pub next : (d : Row) (e : ℕ) → k + 1 < length rows →
      min (slice_index_or rows k d).latest (slice_index_or latest_arrivals (k + 1) e - ((slice_index_or rows (k + 1) d).arrival - (slice_index_or rows k d).start)) ≤ latest

-- the latest arrivals at each row from this one on
pub record AreLatestArrivalsFrom (from : ℕ) (rows : List Row) (latest_arrivals : List ℕ) : Type 0 where
  pub long : length latest_arrivals ≡ length rows
  pub each : (k d : ℕ) → from ≤ k → k < length rows → IsLatestArrival rows k (slice_index_or latest_arrivals k d)
  pub dues : (k d : ℕ) → from ≤ k → k < length rows → IsDue rows latest_arrivals k (slice_index_or latest_arrivals k d)

abbrev pub AreLatestArrivals : List Row → List ℕ → Type 0
AreLatestArrivals rows latest_arrivals = AreLatestArrivalsFrom 0 rows latest_arrivals

-- The distances between the places of a table and a stop.
use Rattle.std.specs.Prelude.{◌≡◌, ℕ, ◌+◌, ◌-◌, ◌^◌, ◌<◌, ◌≤◌, ℤ, pos, ◌-ℤ◌, ◌≤ℤ◌, unsigned_abs, List, length, slice_index_or}
use Rattle.plan_types.specs.declared.requests.Stop.{Stop}
use Rattle.nint_dist.specs.Distance.{distance}
use Rattle.slack_tables.specs.declared.progress.PlaceSlack.{PlaceSlack}
use Rattle.slack_tables.specs.declared.ride.Detour.{Detour}

-- the distance at each place is the distance at the previous place plus the leg between the two places
abbrev pub AreLinked : List PlaceSlack → Type 0
AreLinked places =
    (k : ℕ) (d : PlaceSlack) → k + 1 < length places
    → (slice_index_or places (k + 1) d).at.distance
    ≡ (slice_index_or places k d).at.distance + distance (slice_index_or places k d).at.stop (slice_index_or places (k + 1) d).at.stop

-- starts do not decrease from place to place
abbrev pub AreAscending : List PlaceSlack → Type 0
AreAscending places = (k : ℕ) (d : PlaceSlack) → k + 1 < length places → (slice_index_or places k d).at.start ≤ (slice_index_or places (k + 1) d).at.start

-- the distance that a detour over the stop adds between place m and the next one
abbrev pub detour_of : List PlaceSlack → Stop → ℕ → PlaceSlack → ℤ
detour_of places s m d =
    pos ((slice_index_or places m d).at.distance + distance (slice_index_or places m d).at.stop s
    + distance (slice_index_or places (m + 1) d).at.stop s)
    -ℤ pos (slice_index_or places (m + 1) d).at.distance

-- for each place k from `first` on, the entry of `least` at index k is a lower bound on all detours from place
-- k on
pub record AreLeastDetours (first : ℕ) (least : List ℤ) (places : List PlaceSlack) (s : Stop) : Type 0 where
  pub lower : (k m : ℕ) (d : PlaceSlack) → first ≤ k → k < length least → k ≤ m → m + 1 < length places → slice_index_or least k (pos 0) ≤ℤ detour_of places s m d
  pub small : (k : ℕ) → first ≤ k → k < length least → unsigned_abs (slice_index_or least k (pos 0)) ≤ 2 ^ 60

-- `near` has lower bounds on the distances to a stop inserted at place i and from it
pub record IsNearBy (places : List PlaceSlack) (s : Stop) (i : ℕ) (near : Detour) : Type 0 where
  pub from_one : 1 ≤ i
  pub within : i < length places
  pub to : (d : PlaceSlack) → near.to ≤ distance (slice_index_or places (i - 1) d).at.stop s
  pub from : (d : PlaceSlack) → near.from ≤ distance (slice_index_or places i d).at.stop s
  pub to_small : near.to ≤ 2 ^ 33
  pub from_small : near.from ≤ 2 ^ 33

-- The backward pass over the places of a route.
use Rattle.std.specs.Prelude.{◌≡◌, ℕ, ◌+◌, ◌-◌, ◌^◌, ◌<◌, ◌≤◌, min, List, length, slice_index_or}
use Rattle.std.specs.Int.{int_max}
use Rattle.plan_types.specs.declared.requests.Kind.{Kind}
use Rattle.plan_types.specs.declared.requests.Kind.TheVariants.{LiLim, Vrp}
use Rattle.slack_tables.specs.declared.progress.PlaceSlack.{PlaceSlack}

-- the time for the service at a place and the leg to the next place
abbrev pub stay_between : PlaceSlack → PlaceSlack → ℕ
stay_between place next = place.at.stop.service + (next.at.distance - place.at.distance)

abbrev pub latest_before : Kind → PlaceSlack → PlaceSlack → ℕ
latest_before LiLim place next = min next.latest_start next.at.stop.latest - stay_between place next
latest_before Vrp place next = 18446744073709551615

-- the place with the latest start and greatest load that follow from the next place
abbrev pub row_before : Kind → PlaceSlack → PlaceSlack → PlaceSlack
row_before kind place next = record { at = place.at; latest_start = latest_before kind place next; max_load = int_max place.at.load next.max_load }

-- a vehicle that continues from one place to the next is in time at the next
pub record IsTimely (kind : Kind) (a b : PlaceSlack) : Type 0 where
  pub way : a.at.distance ≤ b.at.distance
  pub short : stay_between a b ≤ 2 ^ 51
  pub arrival : kind ≡ LiLim → a.at.start + stay_between a b ≤ b.at.start
  pub window : kind ≡ LiLim → b.at.start ≤ b.at.stop.latest

abbrev pub EachIsTimely : Kind → List PlaceSlack → Type 0
EachIsTimely kind places = (k : ℕ) (d : PlaceSlack) → k + 1 < length places → IsTimely kind (slice_index_or places k d) (slice_index_or places (k + 1) d)

-- the vehicle is back at the depot by the latest start of the return
abbrev pub LastMayStart : List PlaceSlack → Type 0
LastMayStart places = (d : PlaceSlack) → (slice_index_or places (length places - 1) d).at.start ≤ (slice_index_or places (length places - 1) d).latest_start

-- each place except the last follows from the next one, and the last is unchanged
pub record IsFilled (kind : Kind) (old new : List PlaceSlack) : Type 0 where
  pub last : (d : PlaceSlack) → slice_index_or new (length old - 1) d ≡ slice_index_or old (length old - 1) d
  pub each : (k : ℕ) (d : PlaceSlack) → k + 1 < length old → slice_index_or new k d ≡ row_before kind (slice_index_or old k d) (slice_index_or new (k + 1) d)

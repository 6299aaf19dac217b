-- The fields of a `RouteTable`.
use Rattle.std.specs.Prelude.{◌≡◌, ℕ, ◌+◌, ◌-◌, ◌<◌, ◌≤◌, ◌≤ℤ◌, pos, All, List, map, length, take, drop, slice_index_or}
use Rattle.plan_types.specs.Instance.{Instance}
use Rattle.plan_types.specs.declared.requests.Stop.{Stop}
use Rattle.plan_types.specs.declared.requests.Kind.{Kind}
use Rattle.plan_types.specs.declared.requests.Kind.TheVariants.{LiLim}
use Rattle.slack_tables.specs.Course.{Course, course_of}
use Rattle.slack_tables.specs.Along.{stop_on, start_along, load_along}
use Rattle.slack_tables.specs.DriveSteps.{IsSmallRow}
use Rattle.slack_tables.specs.Places.{IsKnown}
use Rattle.slack_tables.specs.ForwardPass.{IsWithin}
use Rattle.slack_tables.specs.Span.{IsSpan}
use Rattle.slack_tables.specs.declared.progress.Limits.{Limits}
use Rattle.slack_tables.specs.declared.progress.PlaceSlack.{PlaceSlack}
use Rattle.slack_tables.specs.declared.table.RouteTable.TheInside.{Inside}

-- the stops between the two depot places
abbrev pub stops_within : List PlaceSlack → List Stop
stops_within places = map (λ e. e.at.stop) (take (length places - 2) (drop 1 places))

-- the limits of a problem
abbrev pub limits_of : Instance → Limits
limits_of p = record { kind = p.kind; capacity = p.capacity }

-- the value of a table in contracts
abbrev pub course_from : Limits → Stop → List PlaceSlack → Course
course_from limits depot places = record { kind = limits.kind; capacity = limits.capacity; depot = depot; stops = stops_within places }

abbrev pub course_within : Inside → Course
course_within a = course_from a.limits a.depot a.places.items

-- the places from 1 to `last` keep the limits
pub record IsInLimits (kind : Kind) (capacity : ℕ) (at : ℕ → Stop) (last : ℕ) : Type 0 where
  pub load : (k : ℕ) → 1 ≤ k → k ≤ last → load_along at k ≤ℤ pos capacity
  pub window : kind ≡ LiLim → (k : ℕ) → 1 ≤ k → k ≤ last → start_along at k ≤ (at k).latest

-- each place has the values that the course determines
pub record AreKnown (c : Course) (places : List PlaceSlack) : Type 0 where
  pub long : length places ≡ length c.stops + 2
  pub few : length places ≤ 40003
  pub small : All IsSmallRow places
  pub within : (k : ℕ) (d : PlaceSlack) → k < length places → IsWithin k (slice_index_or places k d).at
  pub known : (k : ℕ) (d : PlaceSlack) → k < length places → IsKnown c.kind (stop_on c) (length c.stops + 1) k (slice_index_or places k d)
  pub limits : IsInLimits c.kind c.capacity (stop_on c) (length c.stops + 1)

abbrev pub IsTable : Inside → Type 0
IsTable a = AreKnown (course_within a) a.places.items × IsSpan a.span a.places.items

-- the places are the table of this route
pub record IsTableOf (p : Instance) (route : List ℕ) (places : List PlaceSlack) : Type 0 where
  pub known : AreKnown (course_of p route) places
  pub course : course_from (limits_of p) p.depot places ≡ course_of p route

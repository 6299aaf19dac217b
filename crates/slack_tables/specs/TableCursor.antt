-- The places of a route's stops in a table.
use Rattle.std.specs.Prelude.{◌≡◌, ℕ, ◌+◌, ◌<◌, true, List, length, slice_index, slice_index_or}
use Rattle.plan_types.specs.Instance.{Instance}
use Rattle.plan_types.specs.Limits.{IsVisit}
use Rattle.plan_types.specs.declared.requests.Stop.{Stop}
use Rattle.route_sched.specs.Route.{place}
use Rattle.slack_tables.specs.declared.progress.PlaceSlack.{PlaceSlack}
use Rattle.slack_tables.specs.declared.known_legs.TableCursor.{TableCursor}

-- the stop at this place has the same coordinates as s
pub record IsLocatedAt (places : List PlaceSlack) (k : ℕ) (s : Stop) : Type 0 where
  pub within : k < length places
  pub x : (d : PlaceSlack) → (slice_index_or places k d).at.stop.x ≡ s.x
  pub y : (d : PlaceSlack) → (slice_index_or places k d).at.stop.y ≡ s.y

-- if the cursor is at the vehicle's stop, the table's stop at the cursor has the same coordinates
abbrev pub IsCursorFor : List PlaceSlack → Stop → TableCursor → Type 0
IsCursorFor places s cursor = cursor.is_here ≡ true → IsLocatedAt places cursor.place s

-- the place after the cursor has the stop that follows the first k stops of a route
pub record IsNext (places : List PlaceSlack) (route : List ℕ) (cursor : TableCursor) (k : ℕ) : Type 0 where
  pub here : cursor.is_here ≡ true
  pub within : cursor.place + 1 < length places
  pub number : (d : PlaceSlack) → (slice_index_or places (cursor.place + 1) d).at.stop.number ≡ slice_index route k

-- s is the stop at a place of the route, in the problem
pub record IsStopAt (p : Instance) (route : List ℕ) (k : ℕ) (s : Stop) : Type 0 where
  pub stop : s ≡ place p route k
  pub visit : IsVisit s

-- a stop of the table with the number of a route's stop is that stop
abbrev pub KnowsStops : Instance → List PlaceSlack → Type 0
KnowsStops p places =
    (route : List ℕ) (n k : ℕ) (d : PlaceSlack) → p.depot.number ≡ 0 → n < length places
    → (slice_index_or places n d).at.stop.number ≡ slice_index route k → IsStopAt p route (k + 1) (slice_index_or places n d).at.stop

-- Insertions of an unplanned request into a plan, and the best of them. Vehicles and places count from 1.
use Rattle.std.specs.Prelude.{ℕ, ◌+◌, ◌-◌, nat_lt, nat_le, ◌==◌, ◌&&◌, ◌||◌, not, Bool, List}
use Rattle.std.specs.Prelude.{[], ◌∷◌, length, map, filter, slice_set, Option, Some, None, unwrap_or, if◌then◌else◌}
use Rattle.std.specs.List.{flat_map, insert, range_with_len}
use Rattle.std.specs.Option.{option_map_or, option_and_then}
use Rattle.plan_types.specs.Cost.{cost_below, cost_at_most}
use Rattle.plan_types.specs.Instance.{Instance}
use Rattle.plan_types.specs.declared.plans.Cost.{Cost}
use Rattle.plan_types.specs.declared.requests.Request.{Request}
use Rattle.plan_types.specs.declared.requests.Request.TheVariants.{Single, Pair}
use Rattle.route_sched.specs.Cost.{is_planned, cost_of}
use Rattle.plan_audit.specs.Passes.{passes}
use Rattle.plan_audit.specs.Rules.{item_at}
pub use Rattle.slack_tables.specs.Insertion.{request_named, inserted}

-- a vehicle, the place of the pickup and the place of the delivery in its new route; a single has its place
-- twice
abbrev pub Insertion : Type 0
Insertion = ℕ × ℕ × ℕ

-- the route or the pin of a vehicle
abbrev pub route_of : List (List ℕ) → ℕ → List ℕ
route_of lists v = unwrap_or (item_at lists v) []

-- the plan if it passes
abbrev pub passing : Instance → List (List ℕ) → List (List ℕ) → Option (List (List ℕ))
passing p pins routes = if passes p pins routes then Some routes else None

-- the plan with another route for this vehicle
abbrev pub with_route : List (List ℕ) → ℕ → List ℕ → List (List ℕ)
with_route routes v route = slice_set routes (v - 1) route

-- the route with one more stop at this place
abbrev pub with_stop_at : List ℕ → ℕ → ℕ → List ℕ
with_stop_at route i n = insert route (i - 1) n

-- the places that a request can have after the first `kept` stops of a route of `stops` stops, in ascending
-- order
abbrev pub places_in : Request → ℕ → ℕ → List (ℕ × ℕ)
places_in (Single s) kept stops = map (λ i. (i, i)) (range_with_len (kept + 1) (stops + 1 - kept))
places_in (Pair a b) kept stops = flat_map (λ i. map (λ j. (i, j)) (range_with_len (i + 1) (stops + 2 - i))) (range_with_len (kept + 1) (stops + 1 - kept))

-- whether the request can have these places in a route of `stops` stops, after its first `kept` stops
abbrev pub are_places : Request → ℕ → ℕ → ℕ → ℕ → Bool
are_places (Single s) kept stops i j = nat_lt kept i && (nat_le i (stops + 1) && (i == j))
are_places (Pair a b) kept stops i j = nat_lt kept i && (nat_lt i j && nat_le j (stops + 2))

-- the plan with the request inserted at a place
abbrev pub with_request_at : List (List ℕ) → Request → Insertion → List (List ℕ)
with_request_at routes r x = with_route routes x.0 (inserted r x.1 x.2 (route_of routes x.0))

module _ (pins routes : List (List ℕ)) where
  -- all places of a request after the pins, in ascending order of vehicle, pickup and delivery
  abbrev pub places_of : Request → List Insertion
  places_of r =
      flat_map (λ v. map (λ x. (v, x.0, x.1)) (places_in r (length (route_of pins v)) (length (route_of routes v))))
      (range_with_len 1 (length routes))

  -- whether the request can have this place, which must be after the pin of its vehicle
  abbrev pub is_place_of : Request → Insertion → Bool
  is_place_of r x = nat_le 1 x.0 && (nat_le x.0 (length routes) && are_places r (length (route_of pins x.0)) (length (route_of routes x.0)) x.1 x.2)

module _ (p : Instance) (pins routes : List (List ℕ)) where
  -- the insertions of a request: its places whose result passes; a planned request has none
  abbrev pub insertions_of : Request → List Insertion
  insertions_of r = if is_planned routes r then [] else filter (λ x. passes p pins (with_request_at routes r x)) (places_of pins routes r)

  abbrev pub insertions : ℕ → List Insertion
  insertions name = option_map_or insertions_of (request_named p name) []

  -- `insert_at`: the plan with the request inserted at this place, if the request is unplanned, the place is
  -- after the pin, and the result passes
  abbrev pub inserted_at : ℕ → Insertion → Option (List (List ℕ))
  inserted_at name x =
      option_and_then
      (λ r. if not (is_planned routes r) && is_place_of pins routes r x then passing p pins (with_request_at routes r x) else None)
      (request_named p name)

-- x is no later than y, by vehicle, then by pickup, then by delivery
abbrev pub is_no_later : Insertion → Insertion → Bool
is_no_later x y = nat_lt x.0 y.0 || ((x.0 == y.0) && (nat_lt x.1 y.1 || ((x.1 == y.1) && nat_le x.2 y.2)))

-- the cost of the plan with the request inserted at this place
abbrev pub cost_with : Instance → List (List ℕ) → Request → Insertion → Cost
cost_with p routes r x = cost_of p (with_request_at routes r x)

-- x is no worse than y: the plan with x costs less; or it costs no more, and x is no later
abbrev pub is_no_worse : Instance → List (List ℕ) → Request → Insertion → Insertion → Bool
is_no_worse p routes r x y =
    cost_below (cost_with p routes r x) (cost_with p routes r y) ||
    (cost_at_most (cost_with p routes r x) (cost_with p routes r y) && is_no_later x y)

-- the better one of an item and the best one so far
abbrev pub better : {X : Type 0} → (X → X → Bool) → X → Option X → X
better at_most x None = x
better at_most x (Some y) = if at_most x y then x else y

-- the first item of a list by an order
abbrev pub least_by : {X : Type 0} → (X → X → Bool) → List X → Option X
least_by at_most [] = None
least_by at_most (x ∷ xs) = Some (better at_most x (least_by at_most xs))

-- the best insertion: the first by the result's cost, then by vehicle, pickup and delivery
abbrev pub best_insertion : Instance → List (List ℕ) → List (List ℕ) → ℕ → Option Insertion
best_insertion p pins routes name = option_and_then (λ r. least_by (is_no_worse p routes r) (insertions_of p pins routes r)) (request_named p name)

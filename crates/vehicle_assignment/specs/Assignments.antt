-- The assignment of routes to vehicles.
use Rattle.std.specs.Prelude.{ℕ, ◌+◌, ◌-◌, ◌==◌, nat_eq, Bool, List, [], ◌∷◌, ◌++◌, length, drop, replicate, slice_index_or, slice_set, Option, Some, None, Result, Ok, Err, if◌then◌else◌}
use Rattle.std.specs.List.{position, starts_with}
use Rattle.std.specs.Option.{option_map}
use Rattle.plan_types.specs.declared.plans.Plan.{Plan}
use Rattle.route_sched.specs.Cost.{used_routes}
use Rattle.vehicle_assignment.specs.declared.assignment.Assignment.{Assignment}
use Rattle.vehicle_assignment.specs.declared.faults.AssignmentFault.{AssignmentFault}
use Rattle.vehicle_assignment.specs.declared.faults.AssignmentFault.TheVariants.{PinWithoutRoute}

abbrev pub begins_with : List ℕ → List ℕ → Bool
begins_with pin route = starts_with nat_eq route pin

-- a taken route, and the remaining routes with an empty one in its place
pub record TakenRoute : Type 0 where
  pub route : List ℕ
  pub remaining : List (List ℕ)

abbrev pub take_at : List (List ℕ) → ℕ → TakenRoute
take_at routes k = record { route = slice_index_or routes k []; remaining = slice_set routes k [] }

-- the first route that begins with the pin, or for now an empty route if the pin is empty
abbrev pub take_route : List ℕ → List (List ℕ) → Option TakenRoute
take_route pin routes = if length pin == 0 then Some (record { route = []; remaining = routes }) else option_map (take_at routes) (position (begins_with pin) routes)

-- the route of a vehicle, before those of the later vehicles
abbrev pub with_route : List ℕ → Result Assignment AssignmentFault → Result Assignment AssignmentFault
with_route route (Ok claims) = Ok (record claims { assigned = route ∷ claims.assigned })
with_route route (Err fault) = Err fault

abbrev pub or_no_route : ℕ → (TakenRoute → Result Assignment AssignmentFault) → Option TakenRoute → Result Assignment AssignmentFault
or_no_route v next None = Err (PinWithoutRoute v)
or_no_route v next (Some taken) = next taken

-- the routes that vehicles with these pins take one after another, with the first vehicle numbered v
unfoldable pub assign_by_pins : ℕ → List (List ℕ) → List (List ℕ) → Result Assignment AssignmentFault
assign_by_pins v [] routes = Ok (record { assigned = []; remaining = routes })
assign_by_pins v (pin ∷ pins) routes = or_no_route v (λ taken. with_route taken.route (assign_by_pins (v + 1) pins taken.remaining)) (take_route pin routes)

-- the routes of all vehicles, with empty ones appended
abbrev pub padded : ℕ → List (List ℕ) → List (List ℕ)
padded fleet assigned = assigned ++ replicate (fleet - length assigned) []

-- each empty route is replaced by the next of the given routes while there are any
unfoldable pub fill_empty : List (List ℕ) → List (List ℕ) → List (List ℕ)
fill_empty [] routes = []
fill_empty (seat ∷ assigned) routes = if length seat == 0 then slice_index_or routes 0 [] ∷ fill_empty assigned (drop 1 routes) else seat ∷ fill_empty assigned routes

-- the routes of all vehicles, after those with pins have taken theirs
abbrev pub plan_of : ℕ → Assignment → Plan
plan_of fleet claims = record { routes = fill_empty (padded fleet claims.assigned) (used_routes claims.remaining) }

abbrev pub plan_of_assignment : ℕ → Result Assignment AssignmentFault → Result Plan AssignmentFault
plan_of_assignment fleet (Ok claims) = Ok (plan_of fleet claims)
plan_of_assignment fleet (Err fault) = Err fault

-- the plan with these routes for `fleet` vehicles; each vehicle with a pin, in ascending order of number, gets
-- the first remaining route that begins with its pin, and the others get the remaining nonempty routes in
-- order; or the first vehicle whose pin begins no remaining route
abbrev pub assigned_plan : ℕ → List (List ℕ) → List (List ℕ) → Result Plan AssignmentFault
assigned_plan fleet pins routes = plan_of_assignment fleet (assign_by_pins 1 pins routes)

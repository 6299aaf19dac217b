-- New routes for some vehicles of a plan.
use Rattle.std.specs.Prelude.{◌≡◌, ℕ, ◌+◌, ◌==◌, not, ◌≤◌, ◌^◌, if◌then◌else◌, true, false, All, List, [], ◌∷◌, length, filter, map, Option, Some, MatchOption}
use Rattle.std.specs.List.{AllByRecursion, list_all}
use Rattle.plan_types.specs.declared.limits.TheConstants.{MAX_FLEET}
use Rattle.plan_types.specs.Instance.{Instance}
use Rattle.plan_types.specs.Request.{request_name}
use Rattle.plan_types.specs.declared.requests.Request.{Request}
use Rattle.route_sched.specs.Cost.{has_stop, total_length, unplanned_count}
use Rattle.route_sched.specs.Route.{AreDistinctStops}
use Rattle.plan_audit.specs.Passes.{has, passes, feasible_alone}
use Rattle.slack_tables.specs.Course.{Course, course_of, course_route, IsCourseIn}
use Rattle.slack_tables.specs.Insertion.{KeepsLimits}
use Rattle.move_ops.specs.Insertion.{Insertion, with_route, with_request_at, route_of, inserted, are_places, inserted_at}
use Rattle.move_ops.specs.Moves.{is_movable_name, is_of_named, without_named}
use Rattle.move_ops.specs.WholePairs.{are_paired}
use Rattle.move_ops.specs.declared.changes.Change.{Change}

-- the number of different names
abbrev pub distinct_count : List ℕ → ℕ
distinct_count [] = 0
distinct_count (n ∷ ns) = (if has ns n then 0 else 1) + distinct_count ns

-- the plan with these routes for their vehicles
abbrev pub with_routes : List (List ℕ) → List Change → List (List ℕ)
with_routes routes [] = routes
with_routes routes (c ∷ cs) = with_routes (with_route routes c.vehicle c.route) cs

-- a table can be built of each of these routes, and the plan with them passes and leaves `left` requests out
pub record IsChange (p : Instance) (pins routes : List (List ℕ)) (changes : List Change) (left : ℕ) : Type 0 where
  pub within : All (λ c. (1 ≤ c.vehicle) × (c.vehicle ≤ length routes)) changes
  pub once : All (λ c. AreDistinctStops p c.route) changes
  pub keeps : All (λ c. KeepsLimits p c.route) changes
  pub passes : passes p pins (with_routes routes changes) ≡ true
  pub unplanned : left ≡ unplanned_count p (with_routes routes changes)

-- the routes of these vehicles without the stops of some requests
abbrev pub removals : Instance → List ℕ → List (List ℕ) → List ℕ → List Change
removals p names routes vs = map (λ v. record { vehicle = v; route = filter (λ n. not (is_of_named p names n)) (route_of routes v) }) vs

-- other tours for vehicles, as changes of their routes
abbrev pub changes_of : List (ℕ × Course) → List Change
changes_of tours = map (λ t. record { vehicle = t.0; route = course_route t.1 }) tours

-- each tour is the table of its route
abbrev pub AreCourses : Instance → List (ℕ × Course) → Type 0
AreCourses p tours = AllByRecursion (λ t. IsCourseIn p t.1) tours

-- these are the tours of the changed routes
pub record AreToursOf (p : Instance) (cs : List Change) (tours : List (ℕ × Course)) : Type 0 where
  pub changes : changes_of tours ≡ cs
  pub courses : AreCourses p tours

-- the requirements for checking the limits of a route: on the route, and on a tour that has some of its stops
pub record IsRouteToCheck (p : Instance) (c : Course) (route : List ℕ) : Type 0 where
  pub near : IsCourseIn p c
  pub once : AreDistinctStops p route
  pub pairs : are_paired p route ≡ true

-- the tour of a route, or `None` if the route is not feasible by itself
abbrev pub IsTourIfFeasible : Instance → List ℕ → Option Course → Type 0
IsTourIfFeasible p route o =
    MatchOption o (feasible_alone p route ≡ false)
    (λ tour. (feasible_alone p route ≡ true) × (tour ≡ course_of p route) × (course_route tour ≡ route))

-- tours without these requests, for a plan that leaves `left` requests out before the removal
pub record IsRemoval (p : Instance) (pins routes : List (List ℕ)) (names : List ℕ) (left : ℕ) (tours : List (ℕ × Course)) : Type 0 where
  pub plan : with_routes routes (changes_of tours) ≡ without_named p names routes
  pub change : IsChange p pins routes (changes_of tours) (left + distinct_count names)
  pub courses : AreCourses p tours

-- these changes turn the old plan into the new one
pub record AreChanges (old new : List (List ℕ)) (changes : List Change) : Type 0 where
  pub within : AllByRecursion (λ c. (1 ≤ c.vehicle) × (c.vehicle ≤ length old)) changes
  pub there : AllByRecursion (λ c. c.route ≡ route_of new c.vehicle) changes
  pub plan : with_routes old changes ≡ new

-- vehicle v has stop n; or v is 0, and no vehicle has the stop
abbrev pub IsVehicleWith : List (List ℕ) → ℕ → ℕ → Type 0
IsVehicleWith routes n v = (1 ≤ v → has (route_of routes v) n ≡ true) × (v ≡ 0 → has_stop routes n ≡ false)

-- the list has the vehicle of each stop for which `Is` holds
abbrev pub AreVehiclesOf : List (List ℕ) → (ℕ → Type 0) → List ℕ → Type 0
AreVehiclesOf routes Is vs = (v n : ℕ) → Is n → has (route_of routes v) n ≡ true → has vs v ≡ true

-- these are vehicles that have a route
abbrev pub AreIn : List (List ℕ) → List ℕ → Type 0
AreIn routes vs = All (λ v. (1 ≤ v) × (v ≤ length routes)) vs

-- `after` has the vehicles of `before`, and also those of the stops for which `Is` holds
pub record Collects (routes : List (List ℕ)) (Is : ℕ → Type 0) (before after : List ℕ) : Type 0 where
  pub within : AreIn routes before → AreIn routes after
  pub stays : (v : ℕ) → has before v ≡ true → has after v ≡ true
  pub found : AreVehiclesOf routes Is after

-- each of these requests can be moved, and the list has the vehicles of their stops
pub record AreVehiclesToChange (p : Instance) (pins routes : List (List ℕ)) (names vs : List ℕ) : Type 0 where
  pub movable : list_all (is_movable_name p pins routes) names ≡ true
  pub within : AreIn routes vs
  pub found : AreVehiclesOf routes (λ n. is_of_named p names n ≡ true) vs

-- the number of vehicles that a route uses, one or none
abbrev pub used : List ℕ → ℕ
used route = if not (length route == 0) then 1 else 0

-- the request can be inserted at this place, with facts about its new route
pub record IsInsertable (p : Instance) (pins routes : List (List ℕ)) (r : Request) (x : Insertion) : Type 0 where
  pub from : 1 ≤ x.0
  pub within : x.0 ≤ length routes
  pub few : x.0 ≤ MAX_FLEET
  pub places : are_places r 0 (length (route_of routes x.0)) x.1 x.2 ≡ true
  pub once : AreDistinctStops p (inserted r x.1 x.2 (route_of routes x.0))
  pub keeps : KeepsLimits p (inserted r x.1 x.2 (route_of routes x.0))
  pub passes : passes p pins (with_request_at routes r x) ≡ true
  pub small : total_length p (with_request_at routes r x) ≤ 2 ^ 63
  pub unplanned : unplanned_count p routes ≡ unplanned_count p (with_request_at routes r x) + 1
  pub there : inserted_at p pins routes (request_name r) x ≡ Some (with_request_at routes r x)

-- The cost of a plan.
use Rattle.std.specs.Prelude.{ℕ, nat_eq, ◌==◌, Bool, not, List, filter, length, sum_by, count_by}
use Rattle.std.specs.List.{concat, list_any}
use Rattle.plan_types.specs.Request.{stops_of}
use Rattle.plan_types.specs.Instance.{Instance}
use Rattle.plan_types.specs.declared.requests.Request.{Request}
use Rattle.plan_types.specs.declared.requests.Kind.{Kind}
use Rattle.plan_types.specs.declared.requests.Kind.TheVariants.{LiLim, Vrp}
use Rattle.plan_types.specs.declared.plans.Cost.{Cost}
use Rattle.route_sched.specs.Schedule.{route_length}

-- whether a route has the stop with this number
abbrev pub has_stop : List (List ℕ) → ℕ → Bool
has_stop routes n = list_any (nat_eq n) (concat routes)

-- whether a route has a stop of the request
abbrev pub is_planned : List (List ℕ) → Request → Bool
is_planned routes r = list_any (λ s. has_stop routes s.number) (stops_of r)

-- the number of requests that have no stop in any route
abbrev pub unplanned_count : Instance → List (List ℕ) → ℕ
unplanned_count p routes = count_by (λ e. not (is_planned routes e.1)) p.requests

-- the routes that are not empty
abbrev pub used_routes : List (List ℕ) → List (List ℕ)
used_routes routes = filter (λ route. not (length route == 0)) routes

-- the number of routes that are not empty
abbrev pub used_count : List (List ℕ) → ℕ
used_count routes = count_by (λ route. not (length route == 0)) routes

-- the number of vehicles in the cost: 0 for a `Vrp` problem, where only the distance counts
abbrev pub vehicle_count : Kind → List (List ℕ) → ℕ
vehicle_count LiLim routes = used_count routes
vehicle_count Vrp routes = 0

-- the sum of the routes' lengths
abbrev pub total_length : Instance → List (List ℕ) → ℕ
total_length p routes = sum_by (route_length p) routes

-- the unplanned requests, the vehicles and the distance
abbrev pub cost_of : Instance → List (List ℕ) → Cost
cost_of p routes = record { unplanned = unplanned_count p routes; vehicles = vehicle_count p.kind routes; distance = total_length p routes }

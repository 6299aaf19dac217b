-- All that the schedule of a route depends on.
use Rattle.std.specs.Prelude.{◌≡◌, ℕ, List, map}
use Rattle.plan_types.specs.Instance.{Instance}
use Rattle.plan_types.specs.declared.requests.Stop.{Stop}
use Rattle.plan_types.specs.declared.requests.Kind.{Kind}
use Rattle.route_sched.specs.Route.{stop_numbered}

-- the kind, capacity and depot of the problem, and the stops of the route in order
pub record Course : Type 0 where
  pub kind : Kind
  pub capacity : ℕ
  pub depot : Stop
  pub stops : List Stop

-- the course of a route
abbrev pub course_of : Instance → List ℕ → Course
course_of p route = record { kind = p.kind; capacity = p.capacity; depot = p.depot; stops = map (stop_numbered p) route }

-- the numbers of a course's stops
abbrev pub course_route : Course → List ℕ
course_route c = map (λ s. s.number) c.stops

-- the problem has this kind, capacity and depot, and these stops with their numbers
abbrev pub IsCourseIn : Instance → Course → Type 0
IsCourseIn p c = course_of p (course_route c) ≡ c

-- Problems that are the same for a route.
use Rattle.std.specs.Prelude.{◌≡◌, ℕ, List, All}
use Rattle.plan_types.specs.Instance.{Instance, stop_at}
use Rattle.route_sched.specs.Route.{place}
use Rattle.route_sched.specs.Schedule.{start, load, route_length}

-- both problems have the same depot, and for each of these numbers the same stop, or both have none
pub record AgreeOn (p q : Instance) (numbers : List ℕ) : Type 0 where
  pub depot : p.depot ≡ q.depot
  pub stops : All (λ n. stop_at p n ≡ stop_at q n) numbers

-- the same stops, starts, loads and length of the route in both problems
pub record HasSameSchedule (p q : Instance) (route : List ℕ) : Type 0 where
  pub places : (i : ℕ) → place p route i ≡ place q route i
  pub starts : (i : ℕ) → start p route i ≡ start q route i
  pub loads : (i : ℕ) → load p route i ≡ load q route i
  pub length : route_length p route ≡ route_length q route

-- law: the schedule of a route depends only on the depot and on the route's stops
abbrev pub SchedulesAgree : Type 0
SchedulesAgree = (p q : Instance) (route : List ℕ) → AgreeOn p q route → HasSameSchedule p q route

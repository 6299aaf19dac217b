-- The relation between the fields of `Visits` and its value in contracts.
use Rattle.std.specs.Prelude.{◌≡◌, ◌+◌, ◌*◌, ◌^◌, ◌≤◌, unsigned_abs, length}
use Rattle.plan_types.specs.Limits.{IsVisit}
use Rattle.route_sched.specs.Route.{AreDistinctStops, place}
use Rattle.route_sched.specs.Schedule.{start, load}
use Rattle.route_sched.specs.VisitsValue.{VisitsValue}
use Rattle.route_sched.specs.declared.visits.Visits.TheInside.{Inside}

abbrev pub visits_value : Inside → VisitsValue
visits_value a = record { problem = a.problem.now; route = a.route.now; place = a.place }

-- The last visit is the visit at the vehicle's place. The bounds hold because a route has few stops.
pub record IsVisitsState (a : Inside) : Type 0 where
  pub route : AreDistinctStops a.problem.now a.route.now
  pub few : length a.route.now ≤ 40001
  pub within : a.place ≤ length a.route.now + 1
  pub stop : a.last.stop ≡ place a.problem.now a.route.now a.place
  pub visit : IsVisit a.last.stop
  pub start : a.last.start ≡ start a.problem.now a.route.now a.place
  pub start_bound : a.last.start ≤ 100000000 + a.place * 3828427
  pub load : a.last.load ≡ load a.problem.now a.route.now a.place
  pub load_bound : unsigned_abs a.last.load ≤ a.place * 2 ^ 31

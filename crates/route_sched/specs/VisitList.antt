-- The visits along a route, place by place.
use Rattle.std.specs.Prelude.{ℕ, ◌+◌, ◌-◌, max, ◌+ℤ◌, List, map, length}
use Rattle.std.specs.List.{range_with_len}
use Rattle.plan_types.specs.Instance.{Instance}
use Rattle.plan_types.specs.declared.requests.Stop.{Stop}
use Rattle.nint_dist.specs.Distance.{distance}
use Rattle.route_sched.specs.Route.{place}
use Rattle.route_sched.specs.Schedule.{leg, start, load}
use Rattle.route_sched.specs.declared.visits.Visit.{Visit}

-- the visit at place k + 1
abbrev pub visit_after : Instance → List ℕ → ℕ → Visit
visit_after p route k = record { stop = place p route (k + 1); start = start p route (k + 1); load = load p route (k + 1); leg = leg p route k }

-- the visits after place k, ending with the return
abbrev pub visits_from : Instance → List ℕ → ℕ → List Visit
visits_from p route k = map (visit_after p route) (range_with_len k (length route + 1 - k))

-- the visit of a stop directly after another visit, with a wait if the vehicle arrives early
abbrev pub next_visit : Visit → Stop → Visit
next_visit last stop = record {
  stop = stop;
  start = max (last.start + last.stop.service + distance last.stop stop) stop.earliest;
  load = last.load +ℤ stop.demand;
  leg = distance last.stop stop;
}

-- The values of each place of a route. Places count from 1, the return after the last stop.
use Rattle.std.specs.Prelude.{ℕ, ◌+◌, ◌-◌, min, ◌==◌, nat_le, ◌&&◌, Bool, true, false, List, map, length, take, fold, Option, Some, None, is_some, if◌then◌else◌}
use Rattle.std.specs.List.{range_with_len}
use Rattle.plan_types.specs.Instance.{Instance, partner_at, pickup_at}
use Rattle.plan_types.specs.declared.requests.Kind.{Kind}
use Rattle.plan_types.specs.declared.requests.Kind.TheVariants.{LiLim, Vrp}
use Rattle.route_sched.specs.Route.{place}
use Rattle.route_sched.specs.Schedule.{time_between}
use Rattle.plan_audit.specs.Passes.{feasible_alone}
use Rattle.plan_explain.specs.Tables.{stop_visits_of}
use Rattle.plan_explain.specs.declared.stop_visits.StopVisit.{StopVisit}
use Rattle.plan_timetable.specs.declared.entries.Entry.{Entry}
use Rattle.plan_timetable.specs.declared.entries.Role.{Role}
use Rattle.plan_timetable.specs.declared.entries.Role.TheVariants.{Pickup, Delivery, Single, Return}

-- the task at the stop with this number
abbrev pub role_of : Instance → ℕ → Role
role_of p n = if n == 0 then Return else if is_some (pickup_at p n) then Delivery else if is_some (partner_at p n) then Pickup else Single

-- the latest start at place i from which the vehicle is in time at place k, if it never waits in between
abbrev pub latest_for : Instance → List ℕ → ℕ → ℕ → ℕ
latest_for p route i k = (place p route k).latest - time_between p route i k

-- The latest start of service at place i from which nothing is late at this or a later place. It is the
-- minimum, over this place and all later ones, of the latest start that keeps the vehicle in time at that
-- place.
unfoldable pub latest_allowed : Instance → List ℕ → ℕ → ℕ
latest_allowed p route i = fold min (place p route i).latest (map (latest_for p route i) (range_with_len (i + 1) (length route + 1 - i)))

-- problems of this kind have latest starts
abbrev pub has_times : Kind → Bool
has_times LiLim = true
has_times Vrp = false

-- the latest start at place i, which is printed if the problem has times and the route is feasible alone
abbrev pub latest_start_shown : Instance → List ℕ → ℕ → Option ℕ
latest_start_shown p route i = if has_times p.kind && feasible_alone p route then Some (latest_allowed p route i) else None

-- a pin may end after the first k stops: they alone are a feasible route
abbrev pub pin_may_end : Instance → List ℕ → ℕ → Bool
pin_may_end p route k = nat_le k (length route) && feasible_alone p (take k route)

-- the values of a place, from its visit
abbrev pub entry_of : Instance → List ℕ → StopVisit → Entry
entry_of p route visit = record {
  visit = visit;
  role = role_of p visit.row.stop;
  partner = partner_at p visit.row.stop;
  latest = latest_start_shown p route visit.row.place;
  pin_may_end = pin_may_end p route visit.row.place;
}

abbrev pub entries_of : Instance → List ℕ → List Entry
entries_of p route = map (entry_of p route) (stop_visits_of p route)

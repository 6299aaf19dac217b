-- A route as a table: a row for each place, the return to the depot last. Places count from 1.
use Rattle.std.specs.Prelude.{ℕ, ◌+◌, ◌-◌, Bool, List, [], ◌∷◌, ◌++◌, map, length, codes}
use Rattle.std.specs.List.{flat_map, range_with_len}
use Rattle.plan_types.specs.Instance.{Instance}
use Rattle.plan_types.specs.declared.requests.Kind.{Kind}
use Rattle.plan_types.specs.declared.requests.Kind.TheVariants.{LiLim, Vrp}
use Rattle.route_sched.specs.Route.{place}
use Rattle.route_sched.specs.Schedule.{leg, load, start}
use Rattle.route_sched.specs.declared.visits.Visit.{Visit}
use Rattle.text_buffer.specs.Columns.{left, right, right_signed}
use Rattle.plan_explain.specs.Templates.{form, text_if}
use Rattle.rule_violations.specs.Limits.{is_late, is_overload}
use Rattle.plan_explain.specs.declared.stop_visits.StopVisit.{StopVisit}
use Rattle.plan_explain.specs.declared.rows.Row.{Row}

-- the arrival at the place after place k: the start of service at place k, plus its service and the leg
abbrev pub arrival : Instance → List ℕ → ℕ → ℕ
arrival p route k = start p route k + (place p route k).service + leg p route k

-- the row of the place after place k
abbrev pub row_after : Instance → List ℕ → ℕ → Row
row_after p route k = record {
  place = k + 1;
  stop = (place p route (k + 1)).number;
  arrival = arrival p route k;
  start = start p route (k + 1);
  earliest = (place p route (k + 1)).earliest;
  latest = (place p route (k + 1)).latest;
  load = load p route (k + 1);
}

-- the rows of a route, in order; the last one is the return
abbrev pub rows_of : Instance → List ℕ → List Row
rows_of p route = map (row_after p route) (range_with_len 0 (length route + 1))

-- the row of the place after place k, with the leg to it and its service time
abbrev pub stop_visit_after : Instance → List ℕ → ℕ → StopVisit
stop_visit_after p route k = record { row = row_after p route k; leg = leg p route k; service = (place p route (k + 1)).service }

-- this visit with its place k and its arrival
abbrev pub stop_visit_at : ℕ → ℕ → Visit → StopVisit
stop_visit_at k arrival visit = record {
  row = record {
    place = k;
    stop = visit.stop.number;
    arrival = arrival;
    start = visit.start;
    earliest = visit.stop.earliest;
    latest = visit.stop.latest;
    load = visit.load;
  };
  leg = visit.leg;
  service = visit.stop.service;
}

-- the visits of a route, in order; the last one is the return
abbrev pub stop_visits_of : Instance → List ℕ → List StopVisit
stop_visits_of p route = map (stop_visit_after p route) (range_with_len 0 (length route + 1))

-- the latest departure from the previous place that delays no service: the vehicle arrives exactly when service
-- starts
abbrev pub departure : StopVisit → ℕ
departure h = h.row.start - h.leg

-- The heading of a table. A problem of kind `Vrp` has no times, so its rows have no arrival, start, window and
-- service.
abbrev pub heading : Kind → List ℕ
heading LiLim = codes "place   stop      leg    arrival      start         window          service      load\n"
heading Vrp = codes "place   stop      leg      load\n"

-- the values of a row, marked as overload if `much` holds and as late if `late` holds
unfoldable pub row_values_text : Kind → StopVisit → Bool → Bool → List ℕ
row_values_text LiLim h much late = form (codes "@ @ @ @ @ @..@ @ @@@\n") (right 5 h.row.place ∷ right 6 h.row.stop ∷ right 8 h.leg ∷ right 10 h.row.arrival
    ∷ right 10 h.row.start ∷ right 10 h.row.earliest ∷ left 10 h.row.latest ∷ right 8 h.service ∷ right_signed 9 h.row.load
    ∷ text_if (codes "  overload") much ∷ text_if (codes "  late") late ∷ [])
row_values_text Vrp h much late = form (codes "@ @ @ @@@\n") (right 5 h.row.place ∷ right 6 h.row.stop ∷ right 8 h.leg
    ∷ right_signed 9 h.row.load ∷ text_if (codes "  overload") much ∷ text_if (codes "  late") late ∷ [])

-- the row of a visit, with a mark if the load exceeds the capacity, and one if the start is after the latest
-- start allowed
abbrev pub row_text : Instance → StopVisit → List ℕ
row_text p h = row_values_text p.kind h (is_overload p h.row.load) (is_late p h.row.start h.row.latest)

-- the table of a route: the heading, and a row for each place and for the return
abbrev pub table_text : Instance → List ℕ → List ℕ
table_text p route = heading p.kind ++ flat_map (row_text p) (stop_visits_of p route)

-- A row without times, for stop n at place k. It is used if a stop is unknown or appears twice, since the
-- schedule is not known then.
abbrev pub stop_row : ℕ → ℕ → List ℕ
stop_row k n = form (codes "@ @\n") (right 5 k ∷ right 6 n ∷ [])

-- a row without times for each stop of a route; the first stop is at place k
abbrev pub stop_rows : ℕ → List ℕ → List ℕ
stop_rows k [] = []
stop_rows k (n ∷ route) = stop_row k n ++ stop_rows (k + 1) route

-- the table of a route without times, under this heading
unfoldable pub stops_table : List ℕ → List ℕ → List ℕ
stops_table title route = title ++ stop_rows 1 route

-- A line for each route, and the sums. Routes count from 1.
use Rattle.std.specs.Prelude.{ℕ, ◌+◌, ◌-◌, ℤ, pos, List, [], ◌∷◌, ◌++◌, map, length, fold, sum_by, codes}
use Rattle.std.specs.Int.{int_max}
use Rattle.plan_types.specs.Instance.{Instance}
use Rattle.plan_types.specs.declared.requests.Kind.{Kind}
use Rattle.plan_types.specs.declared.requests.Kind.TheVariants.{LiLim, Vrp}
use Rattle.route_sched.specs.Schedule.{leg, route_length, start}
use Rattle.route_sched.specs.Cost.{total_length}
use Rattle.text_buffer.specs.Columns.{right, right_signed}
use Rattle.plan_explain.specs.Templates.{form}
use Rattle.plan_explain.specs.Tables.{rows_of}
use Rattle.plan_explain.specs.declared.rows.Row.{Row}
use Rattle.plan_explain.specs.declared.summaries.Summary.{Summary}

-- the waiting time at the place of a row: the start of service minus the arrival
abbrev pub waiting_time : Row → ℕ
waiting_time r = r.start - r.arrival

-- the total waiting time at the places of a route, including the return
abbrev pub waiting : Instance → List ℕ → ℕ
waiting p route = sum_by waiting_time (rows_of p route)

-- the greatest load of the vehicle, at least 0
abbrev pub greatest_load : Instance → List ℕ → ℤ
greatest_load p route = fold int_max (pos 0) (map (λ r. r.load) (rows_of p route))

-- The totals of a route. The departure from the depot is the latest one that does not delay the first stop. The
-- return time is the start at the place after the last stop.
abbrev pub summary_of : Instance → List ℕ → Summary
summary_of p route = record {
  stops = length route;
  distance = route_length p route;
  load = greatest_load p route;
  departure = start p route 1 - leg p route 0;
  return_time = start p route (length route + 1);
  waiting = waiting p route;
}

-- The heading of a summary. A problem of kind `Vrp` has no times, so its summary has no departure, return and
-- waiting time.
abbrev pub summary_heading : Kind → List ℕ
summary_heading LiLim = codes "route  stops   distance      load    set off     return    waiting\n"
summary_heading Vrp = codes "route  stops   distance      load\n"

-- the line of route k, with its totals in columns
abbrev pub route_line : Kind → ℕ → Summary → List ℕ
route_line LiLim k s = form (codes "@ @ @ @ @ @ @\n") (right 5 k ∷ right 6 s.stops ∷ right 10 s.distance ∷ right_signed 9 s.load ∷ right 10 s.departure ∷ right 10 s.return_time ∷ right 10 s.waiting ∷ [])
route_line Vrp k s = form (codes "@ @ @ @\n") (right 5 k ∷ right 6 s.stops ∷ right 10 s.distance ∷ right_signed 9 s.load ∷ [])

-- a line for each route; the first route has number k
abbrev pub route_lines : Kind → ℕ → List Summary → List ℕ
route_lines kind k [] = []
route_lines kind k (s ∷ ss) = route_line kind k s ++ route_lines kind (k + 1) ss

-- the line with the number of stops, the distance and the waiting time of all routes, in their columns
abbrev pub sums_text : Kind → ℕ → ℕ → ℕ → List ℕ
sums_text LiLim stops distance waiting = form (codes "  sum @ @ @\n") (right 6 stops ∷ right 10 distance ∷ right 42 waiting ∷ [])
sums_text Vrp stops distance waiting = form (codes "  sum @ @\n") (right 6 stops ∷ right 10 distance ∷ [])

-- the heading, a line for each route, and the sums
unfoldable pub lines_text : Kind → List Summary → ℕ → List ℕ
lines_text kind ss distance =
    summary_heading kind ++ route_lines kind 1 ss ++ sums_text kind (sum_by (λ (s : Summary). s.stops) ss) distance (sum_by (λ (s : Summary). s.waiting) ss)

-- the summary of a solution: a heading, a line for each route, and the sums
abbrev pub summary_text : Instance → List (List ℕ) → List ℕ
summary_text p routes = lines_text p.kind (map (summary_of p) routes) (total_length p routes)

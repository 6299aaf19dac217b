-- The chart beside the table: when each vehicle drives, waits and serves. A stop's number is above its bars,
-- its window and the start of its service are below them. An axis with ticks is above the chart.
use Rattle.std.specs.Prelude.{zero, suc, ℕ, ◌+◌, ◌-◌, ◌*◌, ◌/◌, ◌==◌, nat_le, max, List, [], ◌∷◌, ◌++◌, map, fold, length, if◌then◌else◌}
use Rattle.std.specs.Int.{div_ceil}
use Rattle.std.specs.List.{flat_map, range_with_len}
use Rattle.plan_types.specs.Instance.{Instance}
use Rattle.plan_types.specs.declared.requests.Kind.{Kind}
use Rattle.plan_types.specs.declared.requests.Kind.TheVariants.{LiLim, Vrp}
use Rattle.plan_types.specs.declared.requests.Stop.{Stop}
use Rattle.route_sched.specs.declared.visits.Visit.{Visit}
use Rattle.plan_picture.specs.DrawnStops.{visits_of}
use Rattle.plan_picture.specs.Svg.{attribute, bar, digit_count, each, numbered, placed_text}
use Rattle.plan_picture.specs.Styles.{style}
use Rattle.plan_picture.specs.Tags.{fixed}
use Rattle.plan_picture.specs.declared.styles.Style.TheVariants as styles
use Rattle.plan_picture.specs.declared.tags.Tag.TheVariants as tags

-- a bar for the window of a stop; none for the depot, since the chart begins at its earliest time
unfoldable pub window_text : Stop → List ℕ
window_text s =
    if s.number == 0 then [] else bar tags.Window s.earliest (s.latest - s.earliest)

-- a bar for how late the service starts
unfoldable pub late_text : Visit → List ℕ
late_text v = bar tags.Late v.stop.latest (v.start - v.stop.latest)

-- three bars: driving from the departure at time `leave`, then waiting, then service
unfoldable pub work_text : ℕ → Visit → List ℕ
work_text leave v =
    bar tags.Drive leave v.leg ++ bar tags.Wait (leave + v.leg) (v.start - (leave + v.leg)) ++ bar tags.Serve v.start v.stop.service

unfoldable pub visit_text : ℕ → Visit → List ℕ
visit_text leave v = work_text leave v ++ window_text v.stop ++ late_text v

-- the visits of a vehicle; its last service before them began at `start` and took `service`
abbrev pub visits_text : ℕ → ℕ → List Visit → List ℕ
visits_text start service [] = []
visits_text start service (v ∷ visits) = visit_text (start + service) v ++ visits_text v.start v.stop.service visits

-- the day of the vehicle whose row has this index
unfoldable pub day_text : Instance → ℕ → List ℕ → List ℕ
day_text p index route =
    numbered tags.Day (30 * index) ++ fixed tags.DayOpen ++ visits_text p.depot.earliest 0 (visits_of p route) ++ fixed tags.GroupEnd

-- the latest of a time and these starts of service
abbrev pub last_start : ℕ → List Visit → ℕ
last_start last visits = fold max last (map (λ v. v.start) visits)

-- the latest of a time and all starts of service
abbrev pub horizon : Instance → ℕ → List (List ℕ) → ℕ
horizon p last [] = last
horizon p last (route ∷ routes) = horizon p (last_start last (visits_of p route)) routes

-- the distance between the ticks of a day: 1, 2 or 5, followed by zeros, so that about twelve ticks fit
abbrev pub tick_step : ℕ → ℕ → ℕ
tick_step zero span = 1
tick_step (suc k) span =
    if nat_le span 12 then 1
    else if nat_le span 24 then 2
    else if nat_le span 60 then 5
    else 10 * tick_step k (span / 10)

-- the x coordinate of a time beside the table
unfoldable pub time_x : ℕ → ℕ → ℕ → ℕ
time_x first last time = 320 + 840 * (time - first) / max (last - first) 1

-- a tick: a line down all rows, with its time above
unfoldable pub tick_line : ℕ → ℕ → List ℕ
tick_line x height =
    style styles.TickLine ++ attribute tags.X x ++ attribute tags.Height height ++ fixed tags.Close

unfoldable pub tick_text : ℕ → ℕ → ℕ → ℕ → List ℕ
tick_text first last height time =
    if nat_le time last then tick_line (time_x first last time) height ++ placed_text tags.TickTime (time_x first last time) time else []

-- the tick number n, counted from the first multiple of the step in the day
abbrev pub nth_tick : ℕ → ℕ → ℕ → ℕ → ℕ → List ℕ
nth_tick first last height step n = tick_text first last height (step * (div_ceil first step + n))

unfoldable pub ticks_text : ℕ → ℕ → ℕ → List ℕ
ticks_text first last height =
    fixed tags.Ticks ++ flat_map (nth_tick first last height (tick_step 20 (last - first))) (range_with_len 0 14) ++ fixed tags.GroupEnd

-- a stop's number and the start of its service
unfoldable pub time_text : ℕ → Visit → List ℕ
time_text x v = placed_text tags.TimeStop x v.stop.number ++ placed_text tags.TimeStart x v.start

-- the width that a stop's number and its time need
abbrev pub time_width : Visit → ℕ
time_width v = 6 * max (digit_count v.start) (digit_count v.stop.number) + 5

-- the times of these visits, except those that would be left of the x coordinate `free`, so that none covers
-- another
abbrev pub times_text : ℕ → ℕ → ℕ → List Visit → List ℕ
times_text first last free [] = []
times_text first last free (v ∷ visits) =
    if nat_le free (time_x first last v.start) then time_text (time_x first last v.start) v
    ++ times_text first last (time_x first last v.start + time_width v) visits else times_text first last free visits

-- the times in the row with this index
unfoldable pub times_row : Instance → ℕ → ℕ → List ℕ → List ℕ
times_row p last index route =
    numbered tags.Day (1116 + 30 * index) ++ fixed tags.DayOpen ++ times_text p.depot.earliest last 0 (visits_of p route) ++ fixed tags.GroupEnd

unfoldable pub times_rows : Instance → ℕ → List (List ℕ) → List ℕ
times_rows p last routes = style styles.Times ++ each (times_row p last) 0 routes ++ fixed tags.GroupEnd

unfoldable pub chart_head : ℕ → ℕ → ℕ → List ℕ
chart_head first last height =
    attribute tags.Chart height ++ numbered tags.ChartBox first ++ numbered tags.ChartWidth (last - first) ++ (attribute tags.Blank height ++ fixed tags.Open)

unfoldable pub bars_text : Instance → ℕ → List (List ℕ) → List ℕ
bars_text p last routes =
    chart_head p.depot.earliest last (30 * length routes) ++ each (day_text p) 0 routes ++ fixed tags.End

unfoldable pub chart_text : Instance → ℕ → List (List ℕ) → List ℕ
chart_text p last routes =
    ticks_text p.depot.earliest last (30 * length routes) ++ bars_text p last routes ++ times_rows p last routes

-- a chart only if the problem has windows
abbrev pub days_text : Kind → Instance → List (List ℕ) → List ℕ
days_text LiLim p routes = chart_text p (horizon p p.depot.latest routes) routes
days_text Vrp p routes = []

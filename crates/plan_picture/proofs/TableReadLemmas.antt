-- The table and the days are well-formed.
use Rattle.std.proofs.Common.{ℕ, ◌+◌, ◌-◌, ◌*◌, ◌/◌, ◌%◌, Bool, true, false, List, [], ◌∷◌, ◌++◌, length, refl, codes}
use Rattle.std.specs.Prelude.{◌==◌, nat_le, if◌then◌else◌}
use Rattle.std.specs.Fmt.{signed_decimal}
use Rattle.std.specs.Int.{div_ceil}
use Rattle.std.specs.List.{flat_map, range_with_len}
use Rattle.plan_types.specs.Instance.{Instance}
use Rattle.plan_types.specs.declared.requests.Kind.{Kind}
use Rattle.plan_types.specs.declared.requests.Kind.TheVariants.{LiLim, Vrp}
use Rattle.plan_types.specs.declared.requests.Stop.{Stop}
use Rattle.route_sched.specs.Schedule.{route_length}
use Rattle.route_sched.specs.declared.visits.Visit.{Visit}
use Rattle.plan_picture.specs.Days.{
  time_x,
  bars_text,
  chart_head,
  chart_text,
  day_text,
  days_text,
  horizon,
  late_text,
  nth_tick,
  tick_line,
  tick_step,
  tick_text,
  ticks_text,
  time_width,
  time_text,
  times_row,
  times_rows,
  times_text,
  visit_text,
  visits_text,
  window_text,
  work_text,
}
use Rattle.plan_picture.specs.DrawnStops.{visits_of}
use Rattle.plan_picture.specs.Svg.{attribute, bar, broken_class, colour, each, numbered, placed_text, tagged}
use Rattle.plan_picture.specs.Table.{columns_text, row_values_text, heading_text, load_text, row_end, row_head, row_place, row_text, rows_text, top_load}
use Rattle.plan_picture.specs.Styles.{style}
use Rattle.plan_picture.specs.Tags.{fixed}
use Rattle.plan_picture.specs.WellFormed.{inside, quoted, unquoted}
use Rattle.plan_picture.specs.Words.{word}
use Rattle.plan_picture.specs.declared.styles.Style.TheVariants as styles
use Rattle.plan_picture.specs.declared.table.Grid.{Grid}
use Rattle.plan_picture.specs.declared.tags.Tag.TheVariants as tags
use Rattle.plan_picture.proofs.PieceLemmas.{attribute_goes, bar_stays, colour_goes, group_ends, group_stays, height_goes, numbered_goes, placed_text_stays, tag_closes, x_goes}
use Rattle.plan_picture.proofs.ReadLemmas.{Goes, goes_on, inside_keeps, plain_signed, quoted_keeps, Stays, stays_all, stays_each, stays_if, stays_with}

place_opens : (g : Grid) (index : ℕ) (n : List ℕ) (os : List (List ℕ)) → Goes (inside (n ∷ os)) (row_place g index) (quoted (codes "g") (n ∷ os))
unfolding row_place fixed
place_opens g index n os =
    let a = inside (n ∷ os) in
    let b = quoted (codes "g") (n ∷ os) in
    let keeps = quoted_keeps (codes "g") (n ∷ os) in
    let x = 390 * (index / g.rows) in
    let y = 1116 + g.pitch * (index % g.rows) in
    goes_on a (numbered tags.Row x) (numbered tags.Blank y) (numbered_goes a b tags.Row x keeps refl) (numbered_goes b b tags.Blank y keeps refl)

head_begins : (broken number : ℕ) (n : List ℕ) (os : List (List ℕ)) → Goes (quoted (codes "g") (n ∷ os)) (row_head broken number) (unquoted (codes "text") (codes "g" ∷ n ∷ os))
unfolding row_head broken_class fixed
head_begins broken number n os =
    let a = quoted (codes "g") (n ∷ os) in
    let inner = codes "g" ∷ n ∷ os in
    goes_on a (colour tags.RowColour number ++ fixed tags.RowText) (broken_class broken number)
    (goes_on a (colour tags.RowColour number) (fixed tags.RowText) (colour_goes a (codes "rect") inner tags.RowColour number refl) refl) (by (number == broken))
  where
    by : (c : Bool) → Goes (unquoted (codes "text") (codes "g" ∷ n ∷ os)) (if c then fixed tags.BrokenClass else []) (unquoted (codes "text") (codes "g" ∷ n ∷ os))
    by true = refl
    by false = refl

values_go : (p : Instance) (number : ℕ) (route : List ℕ) (n : List ℕ) (os : List (List ℕ))
    → Goes (unquoted (codes "text") (codes "g" ∷ n ∷ os)) (row_values_text p number route) (inside (codes "tspan" ∷ codes "text" ∷ codes "g" ∷ n ∷ os))
unfolding row_values_text load_text fixed
values_go p number route n os =
    let a = unquoted (codes "text") (codes "g" ∷ n ∷ os) in
    let names = codes "tspan" ∷ codes "text" ∷ codes "g" ∷ n ∷ os in
    let b = inside names in
    let keeps = inside_keeps names in
    let load = top_load (visits_of p route) in
    let first = numbered tags.RouteCell number in
    let second = numbered tags.StopsCell (length route) in
    goes_on a (first ++ second ++ load_text load) (numbered tags.DistanceCell (route_length p route))
    (goes_on a (first ++ second) (load_text load) (goes_on a first second (numbered_goes a b tags.RouteCell number keeps refl)
    (numbered_goes b b tags.StopsCell (length route) keeps refl))
    (goes_on b (fixed tags.LoadCell) (signed_decimal load) refl (keeps (signed_decimal load) (plain_signed load))))
    (numbered_goes b b tags.DistanceCell (route_length p route) keeps refl)

columns_stay : Stays (columns_text ++ fixed tags.HeadingEnd)
unfolding columns_text tagged fixed word
columns_stay n os = refl

row_ends : (g : Grid) (index : ℕ) (n : List ℕ) (os : List (List ℕ)) → Goes (inside (codes "tspan" ∷ codes "text" ∷ codes "g" ∷ n ∷ os)) (row_end g index) (inside (n ∷ os))
unfolding row_end fixed
row_ends g index n os =
    let a = inside (codes "tspan" ∷ codes "text" ∷ codes "g" ∷ n ∷ os) in
    goes_on a (fixed tags.CellsEnd ++ heading_text g index) (fixed tags.GroupEnd)
    (goes_on a (fixed tags.CellsEnd) (heading_text g index) refl
    (stays_if (index % g.rows == 0) (columns_text ++ fixed tags.HeadingEnd) [] columns_stay (λ m ms. refl) (codes "g") (n ∷ os))) (group_ends n os)

row_stays : (p : Instance) (g : Grid) (broken first index : ℕ) (route : List ℕ) → Stays (row_text p g broken first index route)
unfolding row_text
row_stays p g broken first index route n os =
    let a = inside (n ∷ os) in
    let number = first + index in
    let place = row_place g index in
    let head = row_head broken number in
    let figures = row_values_text p number route in
    goes_on a (place ++ head ++ figures) (row_end g index)
    (goes_on a (place ++ head) figures (goes_on a place head (place_opens g index n os) (head_begins broken number n os)) (values_go p number route n os)) (row_ends g index n os)

pub rows_stay : (p : Instance) (g : Grid) (broken first : ℕ) (routes : List (List ℕ)) → Stays (rows_text p g broken first routes)
unfolding rows_text fixed
rows_stay p g broken first routes =
    group_stays (fixed tags.Table) (each (row_text p g broken first) 0 routes) (λ n os. refl) (stays_each (row_text p g broken first) 0 routes (row_stays p g broken first))

work_stays : (leave : ℕ) (v : Visit) → Stays (work_text leave v)
unfolding work_text fixed
work_stays leave v =
    let drive = bar tags.Drive leave v.leg in
    let wait = bar tags.Wait (leave + v.leg) (v.start - (leave + v.leg)) in
    stays_with (drive ++ wait) (bar tags.Serve v.start v.stop.service)
    (stays_with drive wait (bar_stays tags.Drive leave v.leg (λ n os. refl)) (bar_stays tags.Wait (leave + v.leg) (v.start - (leave + v.leg)) (λ n os. refl)))
    (bar_stays tags.Serve v.start v.stop.service (λ n os. refl))

window_stays : (s : Stop) → Stays (window_text s)
unfolding window_text fixed
window_stays s =
    stays_if (s.number == 0) [] (bar tags.Window s.earliest (s.latest - s.earliest)) (λ n os. refl) (bar_stays tags.Window s.earliest (s.latest - s.earliest) (λ n os. refl))

late_stays : (v : Visit) → Stays (late_text v)
unfolding late_text fixed
late_stays v = bar_stays tags.Late v.stop.latest (v.start - v.stop.latest) (λ n os. refl)

visit_stays : (leave : ℕ) (v : Visit) → Stays (visit_text leave v)
unfolding visit_text
visit_stays leave v =
    stays_with (work_text leave v ++ window_text v.stop) (late_text v) (stays_with (work_text leave v) (window_text v.stop) (work_stays leave v) (window_stays v.stop)) (late_stays v)

visits_stay : (start service : ℕ) (visits : List Visit) → Stays (visits_text start service visits)
visits_stay start service [] = λ n os. refl
visits_stay start service (v ∷ visits) =
    stays_with (visit_text (start + service) v) (visits_text v.start v.stop.service visits) (visit_stays (start + service) v) (visits_stay v.start v.stop.service visits)

-- a row that is moved down leaves the open elements as they were
moved_stays : (y : ℕ) (t : List ℕ) → Stays t → Stays (numbered tags.Day y ++ fixed tags.DayOpen ++ t ++ fixed tags.GroupEnd)
unfolding fixed
moved_stays y t within n os =
    let a = inside (n ∷ os) in
    let name = codes "g" in
    let head = numbered tags.Day y in
    goes_on a (head ++ fixed tags.DayOpen ++ t) (fixed tags.GroupEnd)
    (goes_on a (head ++ fixed tags.DayOpen) t (goes_on a head (fixed tags.DayOpen)
    (numbered_goes a (quoted name (n ∷ os)) tags.Day y (quoted_keeps name (n ∷ os)) refl) refl) (within name (n ∷ os))) (group_ends n os)

day_stays : (p : Instance) (index : ℕ) (route : List ℕ) → Stays (day_text p index route)
unfolding day_text
day_stays p index route = moved_stays (30 * index) (visits_text p.depot.earliest 0 (visits_of p route)) (visits_stay p.depot.earliest 0 (visits_of p route))

time_stays : (x : ℕ) (v : Visit) → Stays (time_text x v)
unfolding time_text fixed
time_stays x v =
    stays_with (placed_text tags.TimeStop x v.stop.number) (placed_text tags.TimeStart x v.start)
    (placed_text_stays tags.TimeStop x v.stop.number (λ n os. refl)) (placed_text_stays tags.TimeStart x v.start (λ n os. refl))

times_stay : (first last free : ℕ) (visits : List Visit) → Stays (times_text first last free visits)
times_stay first last free [] = λ n os. refl
times_stay first last free (v ∷ visits) =
    let x = time_x first last v.start in
    let next = x + time_width v in
    stays_if (nat_le free x) (time_text x v ++ times_text first last next visits) (times_text first last free visits)
    (stays_with (time_text x v) (times_text first last next visits) (time_stays x v) (times_stay first last next visits)) (times_stay first last free visits)

times_row_stays : (p : Instance) (last index : ℕ) (route : List ℕ) → Stays (times_row p last index route)
unfolding times_row
times_row_stays p last index route = moved_stays (1116 + 30 * index) (times_text p.depot.earliest last 0 (visits_of p route)) (times_stay p.depot.earliest last 0 (visits_of p route))

times_rows_stay : (p : Instance) (last : ℕ) (routes : List (List ℕ)) → Stays (times_rows p last routes)
unfolding times_rows style
times_rows_stay p last routes =
    group_stays (style styles.Times) (each (times_row p last) 0 routes) (λ n os. refl) (stays_each (times_row p last) 0 routes (times_row_stays p last))

line_stays : (x height : ℕ) → Stays (tick_line x height)
unfolding tick_line style
line_stays x height n os =
    let a = inside (n ∷ os) in
    let name = codes "rect" in
    goes_on a (style styles.TickLine ++ attribute tags.X x ++ attribute tags.Height height) (fixed tags.Close)
    (goes_on a (style styles.TickLine ++ attribute tags.X x) (attribute tags.Height height)
    (goes_on a (style styles.TickLine) (attribute tags.X x) refl (x_goes name (n ∷ os) x)) (height_goes name (n ∷ os) height)) (tag_closes name n os)

tick_stays : (first last height time : ℕ) → Stays (tick_text first last height time)
unfolding tick_text fixed
tick_stays first last height time =
    let x = time_x first last time in
    stays_if (nat_le time last) (tick_line x height ++ placed_text tags.TickTime x time) []
    (stays_with (tick_line x height) (placed_text tags.TickTime x time) (line_stays x height) (placed_text_stays tags.TickTime x time (λ n os. refl))) (λ n os. refl)

ticks_stay : (first last height : ℕ) → Stays (ticks_text first last height)
unfolding ticks_text fixed
ticks_stay first last height =
    let step = tick_step 20 (last - first) in
    group_stays (fixed tags.Ticks) (flat_map (nth_tick first last height step) (range_with_len 0 14)) (λ n os. refl)
    (stays_all (nth_tick first last height step) (range_with_len 0 14) (λ k. tick_stays first last height (step * (div_ceil first step + k))))

chart_opens : (first last height : ℕ) (n : List ℕ) (os : List (List ℕ)) → Goes (inside (n ∷ os)) (chart_head first last height) (inside (codes "svg" ∷ n ∷ os))
unfolding chart_head fixed
chart_opens first last height n os =
    let a = inside (n ∷ os) in
    let name = codes "svg" in
    let b = quoted name (n ∷ os) in
    let c = unquoted name (n ∷ os) in
    let keeps = quoted_keeps name (n ∷ os) in
    let top = attribute tags.Chart height in
    let box = numbered tags.ChartBox first in
    let width = numbered tags.ChartWidth (last - first) in
    goes_on a (top ++ box ++ width) (attribute tags.Blank height ++ fixed tags.Open)
    (goes_on a (top ++ box) width (goes_on a top box (attribute_goes a name (n ∷ os) tags.Chart height refl) (numbered_goes c b tags.ChartBox first keeps refl))
    (numbered_goes b b tags.ChartWidth (last - first) keeps refl))
    (goes_on b (attribute tags.Blank height) (fixed tags.Open) (attribute_goes b name (n ∷ os) tags.Blank height refl) refl)

bars_stay : (p : Instance) (last : ℕ) (routes : List (List ℕ)) → Stays (bars_text p last routes)
unfolding bars_text fixed
bars_stay p last routes n os =
    let a = inside (n ∷ os) in
    let head = chart_head p.depot.earliest last (30 * length routes) in
    let days = each (day_text p) 0 routes in
    goes_on a (head ++ days) (fixed tags.End)
    (goes_on a head days (chart_opens p.depot.earliest last (30 * length routes) n os) (stays_each (day_text p) 0 routes (day_stays p) (codes "svg") (n ∷ os))) refl

chart_stays : (p : Instance) (last : ℕ) (routes : List (List ℕ)) → Stays (chart_text p last routes)
unfolding chart_text
chart_stays p last routes =
    let ticks = ticks_text p.depot.earliest last (30 * length routes) in
    stays_with (ticks ++ bars_text p last routes) (times_rows p last routes)
    (stays_with ticks (bars_text p last routes) (ticks_stay p.depot.earliest last (30 * length routes)) (bars_stay p last routes))
    (times_rows_stay p last routes)

pub days_stay : (kind : Kind) (p : Instance) (routes : List (List ℕ)) → Stays (days_text kind p routes)
days_stay LiLim p routes = chart_stays p (horizon p p.depot.latest routes) routes
days_stay Vrp p routes = λ n os. refl

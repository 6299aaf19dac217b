-- The table under the map: a row for each route, with its colour, number, stops, greatest load and distance. If
-- the problem has windows, the day of the vehicle is beside its row; otherwise the rows form three blocks.
use Rattle.std.specs.Prelude.{ℕ, ◌+◌, ◌*◌, ◌/◌, ◌%◌, ◌==◌, max, ℤ, pos, List, [], ◌++◌, map, fold, length, if◌then◌else◌}
use Rattle.std.specs.Fmt.{signed_decimal}
use Rattle.std.specs.Int.{div_ceil, int_max}
use Rattle.plan_types.specs.Instance.{Instance}
use Rattle.plan_types.specs.declared.requests.Kind.{Kind}
use Rattle.plan_types.specs.declared.requests.Kind.TheVariants.{LiLim, Vrp}
use Rattle.route_sched.specs.Schedule.{route_length}
use Rattle.route_sched.specs.declared.visits.Visit.{Visit}
use Rattle.plan_picture.specs.DrawnStops.{visits_of}
use Rattle.plan_picture.specs.Svg.{broken_class, colour, each, numbered, tagged}
use Rattle.plan_picture.specs.Tags.{fixed}
use Rattle.plan_picture.specs.declared.table.Grid.{Grid}
use Rattle.plan_picture.specs.declared.tags.Tag.TheVariants as tags
use Rattle.plan_picture.specs.declared.words.Word.TheVariants as words

-- the number of rows in a block, and the distance between them
unfoldable pub grid_of : Kind → ℕ → Grid
grid_of LiLim rows = record { rows = max rows 1; pitch = 30 }
grid_of Vrp rows = record { rows = max (div_ceil rows 3) 1; pitch = 20 }

-- the greatest load, at least 0
abbrev pub top_load : List Visit → ℤ
top_load visits = fold int_max (pos 0) (map (λ v. v.load) visits)

-- the position of the row with this index
unfoldable pub row_place : Grid → ℕ → List ℕ
row_place g index =
    numbered tags.Row (390 * (index / g.rows)) ++ numbered tags.Blank (1116 + g.pitch * (index % g.rows))

unfoldable pub row_head : ℕ → ℕ → List ℕ
row_head broken number =
    colour tags.RowColour number ++ fixed tags.RowText ++ broken_class broken number

unfoldable pub load_text : ℤ → List ℕ
load_text load = fixed tags.LoadCell ++ signed_decimal load

unfoldable pub row_values_text : Instance → ℕ → List ℕ → List ℕ
row_values_text p number route =
    numbered tags.RouteCell number ++ numbered tags.StopsCell (length route) ++ load_text (top_load (visits_of p route)) ++ numbered tags.DistanceCell (route_length p route)

-- the headings of the columns, above the first row of each block
unfoldable pub columns_text : List ℕ
columns_text =
    tagged tags.HeadingRoute words.RouteColumn ++ tagged tags.HeadingStops words.StopsColumn ++ tagged tags.HeadingLoad words.LoadColumn ++ tagged tags.HeadingDistance words.DistanceColumn

abbrev pub heading_text : Grid → ℕ → List ℕ
heading_text g index = if index % g.rows == 0 then columns_text ++ fixed tags.HeadingEnd else []

unfoldable pub row_end : Grid → ℕ → List ℕ
row_end g index = fixed tags.CellsEnd ++ heading_text g index ++ fixed tags.GroupEnd

unfoldable pub row_text : Instance → Grid → ℕ → ℕ → ℕ → List ℕ → List ℕ
row_text p g broken first index route =
    row_place g index ++ row_head broken (first + index) ++ row_values_text p (first + index) route ++ row_end g index

-- the rows; the first belongs to the route with this number
unfoldable pub rows_text : Instance → Grid → ℕ → ℕ → List (List ℕ) → List ℕ
rows_text p g broken first routes =
    fixed tags.Table ++ each (row_text p g broken first) 0 routes ++ fixed tags.GroupEnd

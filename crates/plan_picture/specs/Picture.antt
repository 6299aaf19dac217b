-- The picture of a plan, or of one of its routes, byte by byte.
use Rattle.std.specs.Prelude.{ℕ, ◌+◌, ◌*◌, List, [], ◌∷◌, ◌++◌, Option, map, length}
use Rattle.std.specs.Option.{option_map}
use Rattle.plan_types.specs.Instance.{Instance}
use Rattle.plan_types.specs.declared.requests.Stop.{Stop}
use Rattle.plan_audit.specs.Rules.{item_at}
use Rattle.plan_audit.specs.declared.rules.Verdict.{Verdict}
use Rattle.plan_audit.specs.declared.rules.Verdict.TheVariants.{Broken, Pass}
use Rattle.plan_picture.specs.Days.{days_text}
use Rattle.plan_picture.specs.Heads.{head_text, title_text, unserved_text}
use Rattle.plan_picture.specs.DrawnStops.{kept_of, stops_in_order, stops_along, unserved}
use Rattle.plan_picture.specs.Map.{map_text}
use Rattle.plan_picture.specs.Table.{grid_of, rows_text}
use Rattle.plan_picture.specs.Tags.{fixed}
use Rattle.plan_picture.specs.declared.tags.Tag.TheVariants as tags

-- the number of the route that the verdict reports, or 0 if it reports none
abbrev pub broken_route : Verdict → ℕ
broken_route (Pass cost) = 0
broken_route (Broken rule route place stop) = route

-- the number of the stop that the verdict reports, or 0 if it reports none
abbrev pub broken_stop : Verdict → ℕ
broken_stop (Pass cost) = 0
broken_stop (Broken rule route place stop) = stop

-- the map and the table of these stops and routes; the first route has number `first`
unfoldable pub map_and_table_text : Instance → List Stop → ℕ → List (List ℕ) → Verdict → List ℕ
map_and_table_text p stops first routes verdict =
    map_text p stops first routes (broken_route verdict) (broken_stop verdict) ++ rows_text p (grid_of p.kind (length routes)) (broken_route verdict) first routes ++ days_text p.kind p routes

-- the head of a picture with this number of rows
abbrev pub sized_head : Instance → ℕ → List ℕ
sized_head p rows = head_text p.kind (1130 + (grid_of p.kind rows).pitch * (grid_of p.kind rows).rows)

-- the picture of all routes
unfoldable pub whole_text : Instance → List (List ℕ) → Verdict → List ℕ
whole_text p routes verdict =
    sized_head p (length routes) ++ title_text p routes verdict 0 ++ unserved_text (length (unserved routes (stops_in_order p))) ++ map_and_table_text p (stops_in_order p) 1 routes verdict

-- the picture of one route: it has only the stops of this route, so they are drawn at a larger scale
unfoldable pub route_text : Instance → List (List ℕ) → Verdict → ℕ → List ℕ → List ℕ
route_text p routes verdict number route =
    sized_head p 1 ++ title_text p routes verdict number ++ map_and_table_text p (stops_along p route) number (route ∷ []) verdict

-- the picture of any routes, each reduced to the part that is drawn
abbrev pub picture : Instance → List (List ℕ) → Verdict → List ℕ
picture p routes verdict = whole_text p (map (kept_of p) routes) verdict ++ fixed tags.End

-- the picture of the route with this number, counted from 1, if there is one
abbrev pub route_picture : Instance → List (List ℕ) → Verdict → ℕ → Option (List ℕ)
route_picture p routes verdict number =
    option_map (λ route. route_text p (map (kept_of p) routes) verdict number route ++ fixed tags.End) (item_at (map (kept_of p) routes) number)

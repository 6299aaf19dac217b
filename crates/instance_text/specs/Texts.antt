-- The text of a problem, in the format for it.
use Rattle.std.specs.Prelude.{ℕ, ◌+◌, ◌-◌, List, [], ◌∷◌, ◌++◌, length, map, codes, unwrap_or, is_some, if◌then◌else◌, ℤ, pos, neg_ℤ}
use Rattle.std.specs.Fmt.{decimal, signed_decimal}
use Rattle.std.specs.List.{filter_map, flat_map, range_with_len}
use Rattle.text_lines.specs.Lines.{with_line_feed}
use Rattle.plan_types.specs.Instance.{Instance, partner_at, pickup_at, stop_at}
use Rattle.plan_types.specs.declared.requests.Stop.{Stop}
use Rattle.instance_read.specs.declared.formats.Layout.{Layout}
use Rattle.instance_read.specs.declared.formats.Layout.TheVariants.{LiLim, Solomon, Vrp}
use Rattle.instance_text.specs.Formats.{layout_for}
use Rattle.instance_text.specs.declared.lines.Heading.{Heading}
use Rattle.instance_text.specs.declared.lines.Heading.TheVariants.{Name, ProblemType, Dimension, Weights, Capacity, Coordinates, Demands, Depots, End, Title, Blank, Vehicles, Amounts, Customers, Columns}
use Rattle.instance_text.specs.declared.stops.StopLine.{StopLine}
use Rattle.instance_text.specs.declared.stops.StopLine.TheVariants.{Task, Customer, Node, Demand}

-- the numbers in decimal, separated by single spaces
unfoldable pub numbers_text : List ℤ → List ℕ
numbers_text [] = []
numbers_text (z ∷ zs) = signed_decimal z ++ flat_map (λ n. 32 ∷ signed_decimal n) zs

-- lines, each with its line feed
abbrev pub lines_text : List (List ℕ) → List ℕ
lines_text lines = flat_map with_line_feed lines

-- ---- stops
-- the stops of the requests among `count` numbers from n on, in ascending order
abbrev pub stops_from : Instance → ℕ → ℕ → List Stop
stops_from p n count = filter_map (stop_at p) (range_with_len n count)

abbrev pub visits : Instance → List Stop
visits p = p.depot ∷ stops_from p 1 (p.next_number - 1)

-- the pickup of a delivery, or 0
abbrev pub named_pickup : Instance → ℕ → ℕ
named_pickup p n = unwrap_or (pickup_at p n) 0

-- the delivery of a pickup, or 0
abbrev pub named_delivery : Instance → ℕ → ℕ
named_delivery p n = if is_some (pickup_at p n) then 0 else unwrap_or (partner_at p n) 0

abbrev pub customer_row : Stop → List ℤ
customer_row s = pos s.number ∷ s.x ∷ s.y ∷ s.demand ∷ pos s.earliest ∷ pos s.latest ∷ pos s.service ∷ []

-- the numbers in a line for a stop; a customer has its number, coordinates, demand, time window and service,
-- and a task also the pickup or the delivery of its pair; nodes count from 1
abbrev pub row_of : Instance → StopLine → Stop → List ℤ
row_of p Task s =
    pos s.number ∷ s.x ∷ s.y ∷ s.demand ∷ pos s.earliest ∷ pos s.latest ∷ pos s.service
    ∷ pos (named_pickup p s.number) ∷ pos (named_delivery p s.number) ∷ []
row_of p Customer s = customer_row s
row_of p Node s = pos (s.number + 1) ∷ s.x ∷ s.y ∷ []
row_of p Demand s = pos (s.number + 1) ∷ s.demand ∷ []

abbrev pub row_line : Instance → StopLine → Stop → List ℕ
row_line p row s = numbers_text (row_of p row s)

abbrev pub customer_line : Stop → List ℕ
customer_line s = numbers_text (customer_row s)

-- ---- Li and Lim's format
-- fleet, capacity, and a speed
abbrev pub header_line : Instance → List ℕ
header_line p = numbers_text (pos p.fleet ∷ pos p.capacity ∷ pos 1 ∷ [])

abbrev pub lilim_lines : Instance → List (List ℕ)
lilim_lines p = header_line p ∷ map (row_line p Task) (visits p)

-- ---- CVRPLIB's and Solomon's formats
-- the lines that are the same in each text, and the keys of the two lines that end with a number
unfoldable pub heading_text : Heading → List ℕ
heading_text Name = codes "NAME : planner"
heading_text ProblemType = codes "TYPE : CVRP"
heading_text Dimension = codes "DIMENSION : "
heading_text Weights = codes "EDGE_WEIGHT_TYPE : EUC_2D"
heading_text Capacity = codes "CAPACITY : "
heading_text Coordinates = codes "NODE_COORD_SECTION"
heading_text Demands = codes "DEMAND_SECTION"
heading_text Depots = codes "DEPOT_SECTION"
heading_text End = codes "EOF"
heading_text Title = codes "planner"
heading_text Blank = []
heading_text Vehicles = codes "VEHICLE"
heading_text Amounts = codes "NUMBER CAPACITY"
heading_text Customers = codes "CUSTOMER"
heading_text Columns = codes "CUST NO. XCOORD. YCOORD. DEMAND READY TIME DUE DATE SERVICE TIME"

-- ---- Solomon's format
abbrev pub fleet_line : Instance → List ℕ
fleet_line p = numbers_text (pos p.fleet ∷ pos p.capacity ∷ [])

-- the lines before the depot, with the blank lines of the published files
abbrev pub vehicle_lines : Instance → List (List ℕ)
vehicle_lines p = heading_text Title ∷ heading_text Blank ∷ heading_text Vehicles ∷ heading_text Amounts ∷ fleet_line p ∷ []

abbrev pub column_lines : List (List ℕ)
column_lines = heading_text Blank ∷ heading_text Customers ∷ heading_text Columns ∷ heading_text Blank ∷ []

abbrev pub solomon_lines : Instance → List (List ℕ)
solomon_lines p = vehicle_lines p ++ (column_lines ++ map (row_line p Customer) (visits p))

-- ---- CVRPLIB's format

abbrev pub key_line : Heading → ℕ → List ℕ
key_line key n = heading_text key ++ decimal n

-- the lines before the sections; the dimension counts the depot too
abbrev pub head_lines : Instance → List (List ℕ)
head_lines p =
    heading_text Name ∷ heading_text ProblemType ∷ key_line Dimension (length p.requests + 1)
    ∷ heading_text Weights ∷ key_line Capacity p.capacity ∷ []

-- a section with a line for each stop
abbrev pub section_lines : Instance → Heading → StopLine → List (List ℕ)
section_lines p heading row = heading_text heading ∷ map (row_line p row) (visits p)

-- the list of depots is node 1 and ends with -1
abbrev pub end_lines : List (List ℕ)
end_lines = heading_text Depots ∷ numbers_text (pos 1 ∷ []) ∷ numbers_text (neg_ℤ (pos 1) ∷ []) ∷ heading_text End ∷ []

abbrev pub vrp_lines : Instance → List (List ℕ)
vrp_lines p = head_lines p ++ (section_lines p Coordinates Node ++ (section_lines p Demands Demand ++ end_lines))

-- ---- any format
abbrev pub lines_by : Layout → Instance → List (List ℕ)
lines_by LiLim p = lilim_lines p
lines_by Solomon p = solomon_lines p
lines_by Vrp p = vrp_lines p

abbrev pub instance_text : Instance → List ℕ
instance_text p = lines_text (lines_by (layout_for p.kind p) p)

-- Templates in which each `@` is replaced by a value, and the names of fields, keys and lines that messages
-- print.
use Rattle.std.specs.Prelude.{ℕ, ◌++◌, ◌==◌, nat_lt, Bool, List, [], ◌∷◌, Option, Some, None, codes, decimal, if◌then◌else◌}
use Rattle.std.specs.Fmt.{signed_decimal}
use Rattle.std.specs.Option.{option_copied}
use Rattle.instance_read.specs.declared.evidence.Field.{Field}
use Rattle.instance_read.specs.declared.evidence.Field.TheVariants as fields
use Rattle.instance_read.specs.declared.evidence.SolomonLine.{SolomonLine}
use Rattle.instance_read.specs.declared.evidence.SolomonLine.TheVariants as lines
use Rattle.instance_read.specs.declared.vrp_lines.Key.{Key}
use Rattle.instance_read.specs.declared.vrp_lines.Key.TheVariants as keys
use Rattle.plan_types.specs.declared.requests.Stop.{Stop}
use Rattle.rule_violations.specs.declared.positions.PrintedPosition.{PrintedPosition}
use Rattle.text_buffer.specs.Columns.{left as at_left, right, right_signed}
use Rattle.plan_explain.specs.Quotes.{shown_bytes}
use Rattle.plan_explain.specs.declared.templates.Value.{Value}
use Rattle.plan_explain.specs.declared.templates.Value.TheVariants.{At, Quote, Demand, KeyName, Left, LineName, Long, Name, RequiredValue, Number, Right, RightLong, RightSigned, Short, Signed, TextIf}

-- the words if the condition holds, otherwise nothing
abbrev pub text_if : List ℕ → Bool → List ℕ
text_if words holds = if holds then words else []

-- the position of a stop; routes and places count from 1
abbrev pub position_text : Option PrintedPosition → List ℕ
position_text None = codes "in no route"
position_text (Some s) = codes "at place " ++ decimal s.place ++ codes " of route " ++ decimal s.route

-- the demand of a stop, or nothing if there is no stop
abbrev pub demand_text : Option Stop → List ℕ
demand_text None = []
demand_text (Some s) = codes ", demand " ++ signed_decimal s.demand

-- the name of a key or a section of a `.vrp` file; empty for keys that no message names
unfoldable pub key_name : Key → List ℕ
key_name keys.Dimension = codes "DIMENSION"
key_name keys.Capacity = codes "CAPACITY"
key_name keys.ProblemType = codes "TYPE"
key_name keys.WeightType = codes "EDGE_WEIGHT_TYPE"
key_name keys.Coordinates = codes "NODE_COORD_SECTION"
key_name keys.Demands = codes "DEMAND_SECTION"
key_name keys.Depots = codes "DEPOT_SECTION"
key_name _ = []

-- the name of a field of an instance
unfoldable pub field_name : Field → List ℕ
field_name fields.Fleet = codes "fleet"
field_name fields.Capacity = codes "capacity"
field_name fields.Speed = codes "speed"
field_name fields.Number = codes "number"
field_name fields.Customer = codes "number"
field_name fields.X = codes "x"
field_name fields.Y = codes "y"
field_name fields.Demand = codes "demand"
field_name fields.Earliest = codes "earliest"
field_name fields.Latest = codes "latest"
field_name fields.Ready = codes "ready"
field_name fields.Due = codes "due"
field_name fields.Service = codes "service"
field_name fields.Pickup = codes "pickup"
field_name fields.Delivery = codes "delivery"
field_name fields.Node = codes "node"
field_name fields.Depot = codes "depot"
field_name (fields.Value key) = key_name key
field_name fields.ExtraWord = codes "a word"

-- the name of a line in Solomon's format: the word with which it begins, or a description of its contents
unfoldable pub line_name : SolomonLine → List ℕ
line_name lines.Name = codes "the name"
line_name lines.Vehicle = codes "VEHICLE"
line_name lines.Number = codes "NUMBER"
line_name lines.Fleet = codes "fleet and capacity"
line_name lines.Customers = codes "CUSTOMER"
line_name lines.Columns = codes "CUST"
line_name lines.Depot = codes "customer 0, the depot,"
line_name lines.Customer = codes "customer 0, the depot,"

-- the only value that is supported for the key TYPE or EDGE_WEIGHT_TYPE
unfoldable pub required_value : Key → List ℕ
required_value keys.ProblemType = codes "CVRP"
required_value _ = codes "EUC_2D"

-- the text of a value: a number in decimal or in a column, a name, a position, or quoted bytes
abbrev pub value_text : Value → List ℕ
value_text (Short n) = decimal n
value_text (Number n) = decimal n
value_text (Long n) = decimal n
value_text (Signed z) = signed_decimal z
value_text (Right width n) = right width n
value_text (RightLong width n) = right width n
value_text (RightSigned width z) = right_signed width z
value_text (Left width n) = at_left width n
value_text (TextIf words holds) = text_if words.now holds
value_text (At position) = position_text position
value_text (Quote bytes) = shown_bytes bytes.now
value_text (Name field) = field_name field
value_text (KeyName key) = key_name key
value_text (LineName line) = line_name line
value_text (RequiredValue key) = required_value key
value_text (Demand stop) = demand_text (option_copied stop)

-- the byte of a template as it is printed: `?` if it is not ASCII
abbrev pub plain_byte : ℕ → ℕ
plain_byte b = if nat_lt b 128 then b else 63

-- the text of a byte of a template: the next value for `@`, or nothing if no value is left
abbrev pub next_text : ℕ → List (List ℕ) → List ℕ
next_text b [] = if b == 64 then [] else plain_byte b ∷ []
next_text b (value ∷ values) = if b == 64 then value else plain_byte b ∷ []

-- the values that are left after this byte of a template
abbrev pub left : ℕ → List (List ℕ) → List (List ℕ)
left b [] = []
left b (value ∷ values) = if b == 64 then values else value ∷ values

-- the text of a template, in which the values replace the `@` in order
abbrev pub form : List ℕ → List (List ℕ) → List ℕ
form [] values = []
form (b ∷ words) values = next_text b values ++ form words (left b values)

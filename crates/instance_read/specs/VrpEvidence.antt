-- The details of a fault that a line of a `.vrp` text shows.
use Rattle.std.specs.Prelude.{ℕ, ◌==◌, if◌then◌else◌, List, [], ◌∷◌, length, Option, Some, None, ℤ, pos, unwrap_or}
use Rattle.std.specs.Int.RustNames.{unsigned_abs}
use Rattle.std.specs.Option.{option_map}
use Rattle.text_lines.specs.Numbers.{first_number, within}
use Rattle.text_lines.specs.Words.{words_of}
use Rattle.plan_types.specs.declared.limits.TheConstants.{MAX_CAPACITY, MAX_DEMAND}
use Rattle.instance_read.specs.Rows.{Row, rows_of}
use Rattle.instance_read.specs.Scales.{coordinate_range}
use Rattle.instance_read.specs.declared.scales.Scale.{Scale}
use Rattle.instance_read.specs.Vrp.{key_number, max_nodes}
use Rattle.instance_read.specs.VrpLines.{key_from, key_of, key_text, place_after, trimmed, value_text, value_words}
use Rattle.instance_read.specs.WordEvidence.{numbers_evidence}
use Rattle.instance_read.specs.declared.evidence.Evidence.{Evidence}
use Rattle.instance_read.specs.declared.evidence.Evidence.TheVariants as evidence
use Rattle.instance_read.specs.declared.evidence.Field.{Field}
use Rattle.instance_read.specs.declared.evidence.Field.TheVariants.{Demand, Depot, Node, Value, X, Y}
use Rattle.instance_read.specs.declared.faults.ReadFault.{ReadFault}
use Rattle.instance_read.specs.declared.faults.ReadFaultKind.{ReadFaultKind}
use Rattle.instance_read.specs.declared.faults.ReadFaultKind.TheVariants.{FieldCount, MissingKey, NodeRepeated, Truncated, Unsupported}
use Rattle.instance_read.specs.declared.vrp_lines.Key.{Key}
use Rattle.instance_read.specs.declared.vrp_lines.Key.TheVariants.{Dimension, Capacity, ProblemType, WeightType, Coordinates, Demands, Depots, End, StrayNumber}
use Rattle.instance_read.specs.declared.vrp_lines.Section.{Section}
use Rattle.instance_read.specs.declared.vrp_lines.Section.TheVariants.{Outside, CoordinateLine, DemandLine, DepotLine, AfterEnd}

-- the number of nodes that a line with this key announces, within its limits
abbrev pub announced_by : List (List ℕ) → Key → Option ℤ
announced_by words Dimension = within (pos 2) (pos max_nodes) (first_number words)
announced_by words _ = None

abbrev pub announced : Row → Option ℤ
announced row = announced_by (value_words row) (key_of row)

-- the number of nodes announced after a line; the first DIMENSION outside the sections counts
abbrev pub announced_after : Option ℤ → Row → Section → Option ℤ
announced_after (Some n) row place = Some n
announced_after None row Outside = announced row
announced_after None row _ = None

-- the number of nodes announced before the line with number n, the section of that line, and the line; the
-- first of these lines is in this section
abbrev pub line_from : ℕ → Option ℤ → Section → List Row → Option ℤ × Section × List ℕ
line_from n nodes place [] = (nodes, place, [])
line_from n nodes place (row ∷ rows) =
    if row.line == n then (nodes, place, row.text)
    else line_from n (announced_after nodes row place) (place_after (option_map unsigned_abs nodes) row place) rows

-- the details of a fault in a line of a section of nodes with these fields; `left` is the number of lines that
-- the section lacks
abbrev pub node_evidence : ReadFaultKind → List Field → List (ℤ × ℤ) → Key → ℕ → List (List ℕ) → Evidence
node_evidence FieldCount fields limits section left words = evidence.NodeCount (length fields) (length words) section left
node_evidence Truncated fields limits section left words = evidence.UnfinishedSection section left
node_evidence kind fields limits section left words = numbers_evidence kind fields limits words

abbrev pub depot_evidence : ReadFaultKind → List (List ℕ) → Evidence
depot_evidence FieldCount words = evidence.WordsAfterEnd
depot_evidence Truncated words = evidence.UnfinishedDepots
depot_evidence kind words = numbers_evidence kind (Depot ∷ Depot ∷ []) [] words

-- the details of an unsupported line: the value must be another one, or the key is not supported
abbrev pub unsupported : List ℕ → List ℕ → Key → Evidence
unsupported line value ProblemType = evidence.Value ProblemType value
unsupported line value WeightType = evidence.Value WeightType value
unsupported line value _ = evidence.Key (key_text line)

-- this key, unless a line before EOF has it
abbrev pub missing_key : Key → List Row → Option Key
missing_key key [] = Some key
missing_key key (row ∷ rows) =
    if key_number (key_of row) == key_number key then None
    else if key_number (key_of row) == key_number End then Some key else missing_key key rows

-- what is missing at a line with this key: DIMENSION before a section, or the keys that no line has
abbrev pub missing_evidence : List Row → Key → Evidence
missing_evidence rows Coordinates = evidence.NoDimension
missing_evidence rows Demands = evidence.NoDimension
missing_evidence rows _ =
    evidence.MissingKeys (missing_key Dimension rows ∷ missing_key Capacity rows ∷ missing_key WeightType rows
    ∷ missing_key Coordinates rows ∷ missing_key Demands rows ∷ missing_key Depots rows ∷ [])

-- the details of a fault in the value of a key, or in numbers that are in no section
abbrev pub value_evidence : ReadFaultKind → Option ℤ → List (List ℕ) → Key → Evidence
value_evidence kind nodes words Dimension = numbers_evidence kind (Value Dimension ∷ []) ((pos 2, pos max_nodes) ∷ []) words
value_evidence kind nodes words Capacity = numbers_evidence kind (Value Capacity ∷ []) ((pos 0, pos MAX_CAPACITY) ∷ []) words
value_evidence kind nodes words StrayNumber = evidence.Stray (option_map unsigned_abs nodes)
value_evidence kind nodes words _ = evidence.Nothing

-- the details of a fault in a line outside the sections with this key
abbrev pub keyed_evidence : List Row → Option ℤ → List ℕ → Key → ReadFaultKind → Evidence
keyed_evidence rows nodes line key Unsupported = unsupported line (value_text line) key
keyed_evidence rows nodes line key MissingKey = missing_evidence rows key
keyed_evidence rows nodes line key NodeRepeated = evidence.Key (key_text line)
keyed_evidence rows nodes line key kind = value_evidence kind nodes (words_of (value_text line)) key

abbrev pub key_evidence : List Row → Option ℤ → List ℕ → ReadFaultKind → Evidence
key_evidence rows nodes line kind = keyed_evidence rows nodes line (key_from (key_text line) (trimmed line)) kind

abbrev pub point_limits : Scale → ℤ → List (ℤ × ℤ)
point_limits scale nodes = (pos 1, nodes) ∷ coordinate_range scale ∷ coordinate_range scale ∷ []

abbrev pub amount_limits : ℤ → List (ℤ × ℤ)
amount_limits nodes = (pos 1, nodes) ∷ (pos 0, MAX_DEMAND) ∷ []

-- the details of a fault in a line in this section; `nodes` is the number of nodes announced so far
abbrev pub place_evidence : Scale → List Row → Option ℤ → List ℕ → ReadFaultKind → Section → Evidence
place_evidence scale rows nodes line kind Outside = key_evidence rows nodes line kind
place_evidence scale rows nodes line kind (CoordinateLine left) =
    node_evidence kind (Node ∷ X ∷ Y ∷ []) (point_limits scale (unwrap_or nodes (pos 0))) Coordinates left (words_of line)
place_evidence scale rows nodes line kind (DemandLine left) =
    node_evidence kind (Node ∷ Demand ∷ []) (amount_limits (unwrap_or nodes (pos 0))) Demands left (words_of line)
place_evidence scale rows nodes line kind (DepotLine seen) = depot_evidence kind (words_of line)
place_evidence scale rows nodes line kind AfterEnd = evidence.Nothing

abbrev pub vrp_evidence : Scale → List ℕ → ReadFault → Evidence
vrp_evidence scale text fault =
    let at = line_from fault.line None Outside (rows_of text) in
    place_evidence scale (rows_of text) at.0 at.2 fault.kind at.1

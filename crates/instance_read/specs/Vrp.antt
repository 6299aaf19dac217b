-- The faults of a `.vrp` text, and the problem that a text without faults spells.
use Rattle.std.specs.Prelude.{◌≡◌, ℕ, zero, suc, ◌+◌, ◌-◌, Bool, true, false, not, ◌&&◌, ◌||◌, ◌==◌, List, [], ◌∷◌, ◌++◌, length, map, find, codes, Option, ℤ, pos, neg_ℤ, int_lt}
use Rattle.std.specs.Int.RustNames.{unsigned_abs}
use Rattle.std.specs.List.{list_any, range_with_len}
use Rattle.std.specs.Option.{option_map, option_map_or}
use Rattle.std.specs.Ordering.{int_eq}
use Rattle.std.specs.Str.{str_eq_ignore_ascii_case}
use Rattle.text_lines.specs.Numbers.{number_of}
use Rattle.text_lines.specs.Lines.{lines_of}
use Rattle.text_lines.specs.Words.{words_of}
use Rattle.plan_types.specs.Instance.{Instance}
use Rattle.plan_types.specs.declared.limits.TheConstants.{MAX_CAPACITY, MAX_DEMAND, MAX_STOP_NUMBER, MAX_TIME}
use Rattle.plan_types.specs.declared.requests.Kind.TheVariants.{Vrp}
use Rattle.plan_types.specs.declared.requests.Request.TheVariants.{Single}
use Rattle.plan_types.specs.declared.requests.Stop.{Stop}
use Rattle.instance_read.specs.declared.faults.ReadFaultKind.{ReadFaultKind}
use Rattle.instance_read.specs.declared.faults.ReadFaultKind.TheVariants.{BadNumber, Range, FieldCount, TooManyStops, MissingKey, Unsupported, DepotNotFirst, NodeRepeated, Truncated}
use Rattle.instance_read.specs.Faults.{Class, OfLine, OfText, HasNoFault}
use Rattle.instance_read.specs.Fields.{field, value_at, passes_test, has_no_number, is_beyond, any_beyond}
use Rattle.instance_read.specs.Rows.{Row}
use Rattle.instance_read.specs.Scales.{coordinate_range, times_ℤ}
use Rattle.instance_read.specs.declared.scales.Scale.{Scale}
use Rattle.instance_read.specs.declared.vrp_lines.Key.{Key}
use Rattle.instance_read.specs.declared.vrp_lines.Key.TheVariants.{Dimension, Capacity, ProblemType, WeightType, Refused, Coordinates, Demands, Depots, End, StrayNumber, Ignored}
use Rattle.instance_read.specs.declared.vrp_lines.Section.{Section}
use Rattle.instance_read.specs.declared.vrp_lines.Section.TheVariants.{Outside, CoordinateLine, DemandLine, DepotLine, AfterEnd}
use Rattle.instance_read.specs.VrpLines.{Placed, key_of, value_of, value_words, placed_of, end_place}

-- the number of a key, by which keys are compared
abbrev pub key_number : Key → ℕ
key_number Dimension = 0
key_number Capacity = 1
key_number ProblemType = 2
key_number WeightType = 3
key_number Refused = 4
key_number Coordinates = 5
key_number Demands = 6
key_number Depots = 7
key_number End = 8
key_number StrayNumber = 9
key_number Ignored = 10

-- a line is outside the sections; only such a line has a key
abbrev pub is_outside : Section → Bool
is_outside Outside = true
is_outside _ = false

abbrev pub has_key : Key → Placed → Bool
has_key key p = is_outside p.place && key_number (key_of p.row) == key_number key

-- some of these lines has this key
abbrev pub any_key : Key → List Placed → Bool
any_key key ps = list_any (has_key key) ps

-- the first of these lines with this key
abbrev pub first_key : Key → List Placed → Option Row
first_key key ps = option_map (λ p. p.row) (find (has_key key) ps)

-- the number of nodes that the first DIMENSION line announces
abbrev pub nodes_of : List Placed → ℕ
nodes_of ps = option_map_or (λ row. unsigned_abs (value_at (value_words row) 0)) (first_key Dimension ps) 0

-- the greatest number of nodes; the depot is a node too
abbrev pub max_nodes : ℕ
max_nodes = MAX_STOP_NUMBER + 1

-- the faults of the words of a DIMENSION line; `stands` says whether an earlier line has the key
abbrev pub dimension_fault : Bool → List (List ℕ) → ReadFaultKind → Bool
dimension_fault stands words FieldCount = not (length words == 1)
dimension_fault stands words BadNumber = has_no_number words
dimension_fault stands words TooManyStops = passes_test (λ z. int_lt (pos max_nodes) z) (field words 0)
dimension_fault stands words Range = passes_test (λ z. int_lt z (pos 2)) (field words 0)
dimension_fault stands words NodeRepeated = stands
dimension_fault stands words _ = false

-- the faults of the words of a CAPACITY line
abbrev pub capacity_fault : Bool → List (List ℕ) → ReadFaultKind → Bool
capacity_fault stands words FieldCount = not (length words == 1)
capacity_fault stands words BadNumber = has_no_number words
capacity_fault stands words Range = passes_test (is_beyond (pos 0, pos MAX_CAPACITY)) (field words 0)
capacity_fault stands words NodeRepeated = stands
capacity_fault stands words _ = false

-- the faults of a value that must be this word, in any ASCII letter case
abbrev pub spelling_fault : List ℕ → Bool → List ℕ → ReadFaultKind → Bool
spelling_fault word stands value Unsupported = not (str_eq_ignore_ascii_case value word)
spelling_fault word stands value NodeRepeated = stands
spelling_fault word stands value _ = false

-- the faults of the first line of a section that has a line for each node
abbrev pub opening_fault : Bool → Bool → ReadFaultKind → Bool
opening_fault announced stands MissingKey = not announced
opening_fault announced stands NodeRepeated = stands
opening_fault announced stands _ = false

-- the faults of the first line of the list of depots
abbrev pub repeated_fault : Bool → ReadFaultKind → Bool
repeated_fault stands NodeRepeated = stands
repeated_fault stands _ = false

-- the faults of a line with a refused key: it is not supported
abbrev pub refused_fault : ReadFaultKind → Bool
refused_fault Unsupported = true
refused_fault _ = false

-- the fault of a line of numbers outside the sections: its number of words is wrong, as it should have none
abbrev pub stray_fault : ReadFaultKind → Bool
stray_fault FieldCount = true
stray_fault _ = false

-- the faults of a line outside the sections with this key and value; `announced` says whether an earlier line
-- is a DIMENSION line, `stands` whether an earlier line has the same key
abbrev pub key_fault : Bool → Bool → List ℕ → Key → ReadFaultKind → Bool
key_fault announced stands value Dimension kind = dimension_fault stands (words_of value) kind
key_fault announced stands value Capacity kind = capacity_fault stands (words_of value) kind
key_fault announced stands value ProblemType kind = spelling_fault (codes "CVRP") stands value kind
key_fault announced stands value WeightType kind = spelling_fault (codes "EUC_2D") stands value kind
key_fault announced stands value Refused kind = refused_fault kind
key_fault announced stands value Coordinates kind = opening_fault announced stands kind
key_fault announced stands value Demands kind = opening_fault announced stands kind
key_fault announced stands value Depots kind = repeated_fault stands kind
key_fault announced stands value StrayNumber kind = stray_fault kind
key_fault announced stands value End kind = false
key_fault announced stands value Ignored kind = false

abbrev pub in_coordinates : Section → Bool
in_coordinates (CoordinateLine n) = true
in_coordinates _ = false

abbrev pub in_demands : Section → Bool
in_demands (DemandLine n) = true
in_demands _ = false

-- the line of a section whose first number is this node
abbrev pub is_node_line : (Section → Bool) → ℤ → Placed → Bool
is_node_line section node p = section p.place && passes_test (int_eq node) (field (words_of p.row.text) 0)

-- a line of this section has this node
abbrev pub has_node : (Section → Bool) → List Placed → ℤ → Bool
has_node section before node = list_any (is_node_line section node) before

-- the faults of the words of a line of a section of nodes: the line needs `count` numbers within these limits,
-- the first of which is a node that is not yet taken
abbrev pub node_fault : ℕ → List (ℤ × ℤ) → (ℤ → Bool) → List (List ℕ) → ReadFaultKind → Bool
node_fault count limits taken words FieldCount = not (length words == count)
node_fault count limits taken words BadNumber = has_no_number words
node_fault count limits taken words Range = any_beyond limits words
node_fault count limits taken words NodeRepeated = passes_test taken (field words 0)
node_fault count limits taken words _ = false

abbrev pub coordinate_limits : Scale → ℕ → List (ℤ × ℤ)
coordinate_limits scale nodes = (pos 1, pos nodes) ∷ coordinate_range scale ∷ coordinate_range scale ∷ []

abbrev pub demand_limits : ℕ → List (ℤ × ℤ)
demand_limits nodes = (pos 1, pos nodes) ∷ (pos 0, MAX_DEMAND) ∷ []

-- there is a number, and it is not this one
abbrev pub is_other : ℤ → Option ℤ → Bool
is_other n number = passes_test (λ z. not (int_eq z n)) number

-- the word is a number with the value -1
abbrev pub is_end : List ℕ → Bool
is_end word = passes_test (int_eq (neg_ℤ (pos 1))) (number_of word)

-- some word except the last is a -1
abbrev pub continues_after_end : List (List ℕ) → Bool
continues_after_end [] = false
continues_after_end (w ∷ []) = false
continues_after_end (w ∷ v ∷ words) = is_end w || continues_after_end (v ∷ words)

-- the faults of a line of the list of depots after `seen` words of the list; the list is 1, then -1
abbrev pub depot_fault : ℕ → List (List ℕ) → ReadFaultKind → Bool
depot_fault seen words FieldCount = continues_after_end words
depot_fault seen words BadNumber = has_no_number words
depot_fault zero words DepotNotFirst = is_other (pos 1) (field words 0) || is_other (neg_ℤ (pos 1)) (field words 1)
depot_fault (suc seen) words DepotNotFirst = is_other (neg_ℤ (pos 1)) (field words 0)
depot_fault seen words _ = false

-- the faults of a line in this section, after these lines
abbrev pub place_fault : Scale → List Placed → Row → Section → ReadFaultKind → Bool
place_fault scale before row Outside kind = key_fault (any_key Dimension before) (any_key (key_of row) before) (value_of row) (key_of row) kind
place_fault scale before row (CoordinateLine n) kind = node_fault 3 (coordinate_limits scale (nodes_of before)) (has_node in_coordinates before) (words_of row.text) kind
place_fault scale before row (DemandLine n) kind = node_fault 2 (demand_limits (nodes_of before)) (has_node in_demands before) (words_of row.text) kind
place_fault scale before row (DepotLine seen) kind = depot_fault seen (words_of row.text) kind
place_fault scale before row AfterEnd kind = false

-- a text must not end in this section
abbrev pub is_inside : Section → Bool
is_inside Outside = false
is_inside AfterEnd = false
is_inside _ = true

-- a key or a section that each text must have is missing
abbrev pub lacks_key : List Placed → Bool
lacks_key ps =
    not (any_key Dimension ps && any_key Capacity ps && any_key WeightType ps && any_key Coordinates ps && any_key Demands ps && any_key Depots ps)

-- the line at which a text ends: that of EOF, or the one after the last
abbrev pub end_line : List ℕ → ℕ
end_line text = option_map_or (λ (row : Row). row.line) (first_key End (placed_of text)) (length (lines_of text) + 1)

-- all faults of a text that is read with this scale
abbrev pub VrpFault : Scale → List ℕ → Class → ℕ → ReadFaultKind → Type 0
-- a line that is read has a fault
VrpFault scale text OfLine line kind =
    (before : List Placed) × (p : Placed) × (after : List Placed)
    × (placed_of text ≡ before ++ p ∷ after) × (p.row.line ≡ line) × (place_fault scale before p.row p.place kind ≡ true)
-- the text ends inside a section
VrpFault scale text OfText line Truncated = (is_inside (end_place text) ≡ true) × (line ≡ length (lines_of text) + 1)
-- the text ends outside the sections, and lacks a key or a section
VrpFault scale text OfText line MissingKey =
    (is_inside (end_place text) ≡ false) × (lacks_key (placed_of text) ≡ true) × (line ≡ end_line text)
VrpFault scale text OfText line _ = ⊥

-- the number at place k of a node's line
abbrev pub node_value : (Section → Bool) → List Placed → ℕ → ℕ → ℤ
node_value section ps node k = option_map_or (λ (p : Placed). value_at (words_of p.row.text) k) (find (is_node_line section (pos node)) ps) (pos 0)

-- node n+1 as stop n, with coordinates times the scale and with this demand; the format has no time windows and
-- no service times
abbrev pub node_stop : Scale → List Placed → ℤ → ℕ → Stop
node_stop scale ps demand n = record {
  number = n;
  x = times_ℤ scale (node_value in_coordinates ps (n + 1) 1);
  y = times_ℤ scale (node_value in_coordinates ps (n + 1) 2);
  demand = demand;
  earliest = 0;
  latest = MAX_TIME;
  service = 0;
}

-- the problem of these lines, read with this scale: node 1 is the depot, each other node is a customer with its
-- demand
abbrev pub vrp_problem : Scale → List Placed → Instance
vrp_problem scale ps =
    let nodes = nodes_of ps in
    record {
      kind = Vrp;
      depot = node_stop scale ps (pos 0) 0;
      capacity = option_map_or (λ row. unsigned_abs (value_at (value_words row) 0)) (first_key Capacity ps) 0;
      fleet = nodes - 1;
      requests = map (λ n. (n, Single (node_stop scale ps (node_value in_demands ps (n + 1) 1) n))) (range_with_len 1 (nodes - 1));
      next_number = nodes;
    }

-- a text that is read with this scale spells a problem: the text has no fault, and the problem is that of its
-- lines
abbrev pub SpellsVrp : Scale → List ℕ → Instance → Type 0
SpellsVrp scale text problem = HasNoFault (VrpFault scale text) × (problem ≡ vrp_problem scale (placed_of text))

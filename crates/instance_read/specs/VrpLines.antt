-- The lines of a `.vrp` text: their keys and values, and the sections that they are in.
use Rattle.std.specs.Prelude.{ℕ, ◌+◌, ◌-◌, Bool, ◌&&◌, ◌||◌, ◌==◌, nat_lt, nat_le, if◌then◌else◌, List, [], ◌∷◌, length, take, drop, codes, Option, Some, None, slice_index}
use Rattle.std.specs.Char.{is_ascii_digit}
use Rattle.std.specs.Int.RustNames.{unsigned_abs}
use Rattle.std.specs.List.{before_first, after_first, prefix_len, suffix_len}
use Rattle.std.specs.Option.{option_map}
use Rattle.std.specs.Str.{str_eq_ignore_ascii_case}
use Rattle.text_lines.specs.Words.{is_blank, words_of}
use Rattle.instance_read.specs.Fields.{field}
use Rattle.instance_read.specs.Rows.{Row, rows_of}
use Rattle.instance_read.specs.declared.vrp_lines.Key.{Key}
use Rattle.instance_read.specs.declared.vrp_lines.Key.TheVariants.{Dimension, Capacity, ProblemType, WeightType, Refused, Coordinates, Demands, Depots, End, StrayNumber, Ignored}
use Rattle.instance_read.specs.declared.vrp_lines.Section.{Section}
use Rattle.instance_read.specs.declared.vrp_lines.Section.TheVariants.{Outside, CoordinateLine, DemandLine, DepotLine, AfterEnd}

-- the line without the spaces and tabs at both ends
abbrev pub trimmed : List ℕ → List ℕ
trimmed line =
    let front = drop (prefix_len is_blank line) line in
    take (length front - suffix_len is_blank front) front

abbrev pub is_colon : ℕ → Bool
is_colon b = b == 58

-- the part before the first colon, or the whole line if there is no colon
abbrev pub key_text : List ℕ → List ℕ
key_text line = trimmed (before_first is_colon line)

-- the part after the first colon
abbrev pub value_text : List ℕ → List ℕ
value_text line = trimmed (after_first is_colon line)

-- the word ends with these bytes, in any ASCII letter case
abbrev pub ends_in : List ℕ → List ℕ → Bool
ends_in end word = nat_le (length end) (length word) && str_eq_ignore_ascii_case (drop (length word - length end) word) end

-- the first byte is a digit or a sign
abbrev pub begins_as_number : List ℕ → Bool
begins_as_number line = let b = slice_index line 0 in is_ascii_digit b || b == 43 || b == 45

-- the key of a line; `key` is the part before the colon, `line` the whole line
abbrev pub key_from : List ℕ → List ℕ → Key
key_from key line =
    if str_eq_ignore_ascii_case key (codes "DIMENSION") then Dimension else
    if str_eq_ignore_ascii_case key (codes "CAPACITY") then Capacity else
    if str_eq_ignore_ascii_case key (codes "TYPE") then ProblemType else
    if str_eq_ignore_ascii_case key (codes "EDGE_WEIGHT_TYPE") then WeightType else
    if str_eq_ignore_ascii_case key (codes "DISTANCE") || str_eq_ignore_ascii_case key (codes "SERVICE_TIME") then Refused else
    if str_eq_ignore_ascii_case key (codes "NODE_COORD_SECTION") then Coordinates else
    if str_eq_ignore_ascii_case key (codes "DEMAND_SECTION") then Demands else
    if str_eq_ignore_ascii_case key (codes "DEPOT_SECTION") then Depots else
    if str_eq_ignore_ascii_case key (codes "EOF") then End else
    if ends_in (codes "_SECTION") key then Refused else
    if begins_as_number line then StrayNumber else Ignored

unfoldable pub key_of : Row → Key
key_of row = key_from (key_text row.text) (trimmed row.text)

-- the value, and its words
unfoldable pub value_of : Row → List ℕ
value_of row = value_text row.text

abbrev pub value_words : Row → List (List ℕ)
value_words row = words_of (value_of row)

-- a line and its section
pub record Placed : Type 0 where
  pub row : Row
  pub place : Section

-- the section if it has n lines of nodes left; after its last line, lines are outside the sections
abbrev pub lines_left : (ℕ → Section) → ℕ → Section
lines_left line n = if n == 0 then Outside else line n

abbrev pub coordinates_left : ℕ → Section
coordinates_left n = lines_left (λ k. CoordinateLine k) n

abbrev pub demands_left : ℕ → Section
demands_left n = lines_left (λ k. DemandLine k) n

-- the list of depots ends with its second word
abbrev pub depots_after : ℕ → Section
depots_after seen = if nat_lt seen 2 then DepotLine seen else Outside

-- a section of nodes begins if the number of nodes is announced
abbrev pub if_announced : Option ℕ → (ℕ → Section) → Section
if_announced None section = Outside
if_announced (Some nodes) section = section nodes

-- the section after a line with this key; `nodes` is the number of nodes announced, if any
abbrev pub place_after_key : Option ℕ → Key → Section
place_after_key nodes Coordinates = if_announced nodes coordinates_left
place_after_key nodes Demands = if_announced nodes demands_left
place_after_key nodes Depots = DepotLine 0
place_after_key nodes End = AfterEnd
place_after_key nodes _ = Outside

-- the section after a line in this section
abbrev pub place_after : Option ℕ → Row → Section → Section
place_after nodes row Outside = place_after_key nodes (key_of row)
place_after nodes row (CoordinateLine n) = coordinates_left (n - 1)
place_after nodes row (DemandLine n) = demands_left (n - 1)
place_after nodes row (DepotLine seen) = depots_after (seen + length (words_of row.text))
place_after nodes row AfterEnd = AfterEnd

-- the number of nodes that a line announces
abbrev pub nodes_in_key : Row → Key → Option ℕ
nodes_in_key row Dimension = option_map unsigned_abs (field (value_words row) 0)
nodes_in_key row _ = None

-- the number of nodes announced after a line in this section; the first DIMENSION counts
abbrev pub nodes_after : Option ℕ → Row → Section → Option ℕ
nodes_after (Some n) row place = Some n
nodes_after None row Outside = nodes_in_key row (key_of row)
nodes_after None row _ = None

-- the lines with their sections; the first line is in this section
unfoldable pub placed_from : Option ℕ → Section → List Row → List Placed
placed_from nodes place [] = []
placed_from nodes place (row ∷ rows) =
    record { row = row; place = place } ∷ placed_from (nodes_after nodes row place) (place_after nodes row place) rows

-- the lines of a text that are read, with their sections
abbrev pub placed_of : List ℕ → List Placed
placed_of text = placed_from None Outside (rows_of text)

-- the section after these lines
abbrev pub end_from : Option ℕ → Section → List Row → Section
end_from nodes place [] = place
end_from nodes place (row ∷ rows) = end_from (nodes_after nodes row place) (place_after nodes row place) rows

abbrev pub end_place : List ℕ → Section
end_place text = end_from None Outside (rows_of text)

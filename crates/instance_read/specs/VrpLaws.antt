-- The sections of the lines of a `.vrp` text: the lines after the first line of a section, and after EOF.
use Rattle.std.specs.Prelude.{◌≡◌, ◌≤◌, ℕ, zero, suc, Bool, false, List, [], ◌∷◌, ◌++◌, length, map, drop, codes, Option, Some, pos}
use Rattle.std.specs.Str.{str_eq_ignore_ascii_case}
use Rattle.text_lines.specs.Words.{words_of}
use Rattle.instance_read.specs.declared.vrp_lines.Key.TheVariants.{Dimension, Coordinates, Demands, Depots, End}
use Rattle.instance_read.specs.declared.vrp_lines.Section.{Section}
use Rattle.instance_read.specs.declared.vrp_lines.Section.TheVariants.{Outside, CoordinateLine, DemandLine, DepotLine, AfterEnd}
use Rattle.instance_read.specs.Fields.{field}
use Rattle.instance_read.specs.Rows.{Row}
use Rattle.instance_read.specs.Vrp.{first_key}
use Rattle.instance_read.specs.VrpLines.{Placed, key_of, key_text, nodes_after, placed_from, placed_of, value_words}

abbrev pub outside : Row → Placed
outside row = record { row = row; place = Outside }

-- the first `left` lines of these, as lines of a section of nodes
abbrev pub section_lines : (ℕ → Section) → ℕ → List Row → List Placed
section_lines line zero rows = []
section_lines line (suc left) [] = []
section_lines line (suc left) (row ∷ rows) = record { row = row; place = line (suc left) } ∷ section_lines line left rows

abbrev pub coordinate_lines : ℕ → List Row → List Placed
coordinate_lines left rows = section_lines (λ k. CoordinateLine k) left rows

abbrev pub demand_lines : ℕ → List Row → List Placed
demand_lines left rows = section_lines (λ k. DemandLine k) left rows

abbrev pub depot_line : ℕ → Row → Placed
depot_line seen row = record { row = row; place = DepotLine seen }

abbrev pub after_end : Row → Placed
after_end row = record { row = row; place = AfterEnd }

abbrev pub rows_in : List Placed → List Row
rows_in ps = map (λ p. p.row) ps

-- after the first line of a section of nodes come as many lines of the section as the first DIMENSION line of
-- the text says, or all lines if there are fewer; the lines after them are outside the sections again
abbrev pub SectionsHaveALineForEachNode : Type 0
SectionsHaveALineForEachNode = (text : List ℕ) (before after : List Placed) (row dimension : Row) (nodes : ℕ)
    → placed_of text ≡ before ++ outside row ∷ after
    → first_key Dimension before ≡ Some dimension → field (value_words dimension) 0 ≡ Some (pos nodes)
    → (key_of row ≡ Coordinates
    → after ≡ coordinate_lines nodes (rows_in after) ++ placed_from (Some nodes) Outside (drop nodes (rows_in after)))
    × (key_of row ≡ Demands
    → after ≡ demand_lines nodes (rows_in after) ++ placed_from (Some nodes) Outside (drop nodes (rows_in after)))

-- the line's key is this word, in any ASCII letter case
abbrev pub is_keyed : List ℕ → Row → Bool
is_keyed word row = str_eq_ignore_ascii_case (key_text row.text) word

-- the line's key neither begins a section nor ends the text
abbrev pub LeavesOutside : Row → Type 0
LeavesOutside row =
    (is_keyed (codes "NODE_COORD_SECTION") row ≡ false) × (is_keyed (codes "DEMAND_SECTION") row ≡ false)
    × (is_keyed (codes "DEPOT_SECTION") row ≡ false) × (is_keyed (codes "EOF") row ≡ false)

-- after a line outside the sections with any other key, the next line is outside the sections too
abbrev pub OtherLinesStayOutside : Type 0
OtherLinesStayOutside = (nodes : Option ℕ) (row : Row) (rows : List Row) → LeavesOutside row
    → placed_from nodes Outside (row ∷ rows) ≡ outside row ∷ placed_from (nodes_after nodes row Outside) Outside rows

-- a line outside the sections announces nodes only if its key is DIMENSION
abbrev pub OnlyDimensionAnnounces : Type 0
OnlyDimensionAnnounces = (nodes : Option ℕ) (row : Row) → is_keyed (codes "DIMENSION") row ≡ false → nodes_after nodes row Outside ≡ nodes

-- the list of depots is one line if that line has two or more words, and two lines if the first has one
abbrev pub DepotsAreTwoWords : Type 0
DepotsAreTwoWords = (nodes : Option ℕ) (row first second : Row) (rows : List Row) → key_of row ≡ Depots
    → (2 ≤ length (words_of first.text) → placed_from nodes Outside (row ∷ first ∷ rows) ≡ outside row ∷ depot_line 0 first ∷ placed_from nodes Outside rows)
    × (length (words_of first.text) ≡ 1 → 1 ≤ length (words_of second.text)
    → placed_from nodes Outside (row ∷ first ∷ second ∷ rows) ≡ outside row ∷ depot_line 0 first ∷ depot_line 1 second ∷ placed_from nodes Outside rows)

-- lines after EOF do not count
abbrev pub EndIsTheEnd : Type 0
EndIsTheEnd = (nodes : Option ℕ) (row : Row) (rows : List Row) → key_of row ≡ End → placed_from nodes Outside (row ∷ rows) ≡ outside row ∷ map after_end rows

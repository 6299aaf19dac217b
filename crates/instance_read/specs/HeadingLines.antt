-- The lines before the depot of a text in Solomon's format, read one after another.
use Rattle.std.specs.Prelude.{◌≡◌, ℕ, ◌+◌, ◌⊎◌, List, [], ◌∷◌, length}
use Rattle.text_lines.specs.Lines.{lines_of}
use Rattle.text_lines.specs.Words.{words_of}
use Rattle.instance_read.specs.declared.faults.ReadFault.{ReadFault}
use Rattle.instance_read.specs.declared.faults.ReadFaultKind.TheVariants.{Truncated}
use Rattle.instance_read.specs.declared.tasks.FleetLine.{FleetLine}
use Rattle.instance_read.specs.Rows.{Row}
use Rattle.instance_read.specs.Solomon.{LineTest}
use Rattle.instance_read.specs.Tables.{IsHeader}
use Rattle.instance_read.specs.TaskFaults.{HasNoKind, IsFirstKind}

-- the fault of a text that is cut off: its line is the one after the last
abbrev pub truncated_after : List ℕ → ReadFault
truncated_after text = record { line = length (lines_of text) + 1; kind = Truncated }

-- the first of these lines has no such fault, and `rest` are the others
abbrev pub IsPassed : LineTest → List Row → List Row → Type 0
IsPassed test rows rest = (row : Row) × (rows ≡ row ∷ rest) × HasNoKind (test (words_of row.text))

-- there is no line, or the fault is the first of the first line
abbrev pub IsStopped : List ℕ → LineTest → List Row → ReadFault → Type 0
IsStopped text test rows f =
    ((rows ≡ []) × (f ≡ truncated_after text))
    ⊎ ((row : Row) × (rest : List Row) × (rows ≡ row ∷ rest) × (f.line ≡ row.line) × IsFirstKind (test (words_of row.text)) f.kind)

-- the first lines have no fault, and `rest` are the others
abbrev pub ArePassed : List LineTest → List Row → List Row → Type 0
ArePassed [] rows rest = rest ≡ rows
ArePassed (test ∷ due) [] rest = ⊥
ArePassed (test ∷ due) (row ∷ rows) rest = HasNoKind (test (words_of row.text)) × ArePassed due rows rest

-- the first of these lines has this fleet and this capacity
abbrev pub IsFleetLine : List Row → FleetLine → Type 0
IsFleetLine [] header = ⊥
IsFleetLine (row ∷ rows) header = IsHeader (words_of row.text) header

-- the fourth line has this fleet and this capacity
abbrev pub HasFleet : List Row → FleetLine → Type 0
HasFleet (name ∷ vehicle ∷ number ∷ fleet ∷ rows) header = IsHeader (words_of fleet.text) header
HasFleet rows header = ⊥

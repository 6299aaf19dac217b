-- The order of faults, which decides the fault that a reader reports.
use Rattle.std.specs.Prelude.{◌≡◌, ℕ, ◌<◌, ◌≤◌, ◌⊎◌}
use Rattle.instance_read.specs.declared.faults.ReadFault.{ReadFault}
use Rattle.instance_read.specs.declared.faults.ReadFaultKind.{ReadFaultKind}
use Rattle.instance_read.specs.declared.faults.ReadFaultKind.TheVariants.{BadNumber, Range, FieldCount, TaskOrder, PairMismatch, EmptyWindow, TooManyStops}
use Rattle.instance_read.specs.declared.faults.ReadFaultKind.TheVariants.{MissingKey, Unsupported, DepotNotFirst, NodeRepeated, Truncated, OutOfMemory}

-- the class of a fault: of one line, or of the whole text
pub data Class : Type 0 where
  OfLine : Class
  OfText : Class

-- the order of the faults of one line
abbrev pub rank : ReadFaultKind → ℕ
rank FieldCount = 1
rank BadNumber = 2
rank TooManyStops = 3
rank Range = 4
rank TaskOrder = 5
rank EmptyWindow = 6
rank Unsupported = 7
rank MissingKey = 8
rank NodeRepeated = 9
rank DepotNotFirst = 10
rank PairMismatch = 11
rank Truncated = 12
rank OutOfMemory = 13

-- the first place is no later than the second: it has the smaller line, or the same line and a rank that is not
-- greater
abbrev pub IsNoLaterPlace : ℕ → ReadFaultKind → ℕ → ReadFaultKind → Type 0
IsNoLaterPlace line kind line' kind' = (line < line') ⊎ ((line ≡ line') × (rank kind ≤ rank kind'))

-- the first fault is no later than the second; faults of a line come before faults of the whole text
abbrev pub IsNoLater : Class → ℕ → ReadFaultKind → Class → ℕ → ReadFaultKind → Type 0
IsNoLater OfLine line kind OfLine line' kind' = IsNoLaterPlace line kind line' kind'
IsNoLater OfLine line kind OfText line' kind' = Unit {0}
IsNoLater OfText line kind OfLine line' kind' = ⊥
IsNoLater OfText line kind OfText line' kind' = IsNoLaterPlace line kind line' kind'

-- a text has no fault, in the sense of `Fault`
abbrev pub HasNoFault : (Class → ℕ → ReadFaultKind → Type 0) → Type 0
HasNoFault Fault = (class : Class) (line : ℕ) (kind : ReadFaultKind) → Fault class line kind → ⊥

-- the fault is the first, in the sense of `Fault`
abbrev pub IsFirstFault : (Class → ℕ → ReadFaultKind → Type 0) → ReadFault → Type 0
IsFirstFault Fault f =
    (class : Class) × Fault class f.line f.kind
    × ((class' : Class) (line' : ℕ) (kind' : ReadFaultKind) → Fault class' line' kind' → IsNoLater class f.line f.kind class' line' kind')

-- out of memory, which has no line
abbrev pub out_of_memory : ReadFault
out_of_memory = record { line = 0; kind = OutOfMemory }

-- the error of a reader: the first fault, or out of memory
abbrev pub ReportsFirstFault : (Class → ℕ → ReadFaultKind → Type 0) → ReadFault → Type 0
ReportsFirstFault Fault f = (f ≡ out_of_memory) ⊎ IsFirstFault Fault f

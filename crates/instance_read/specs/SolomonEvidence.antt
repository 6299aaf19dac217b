-- The details of a fault that a line of a text in Solomon's format shows.
use Rattle.std.specs.Prelude.{ℕ, ◌==◌, if◌then◌else◌, List, [], ◌∷◌}
use Rattle.text_lines.specs.Words.{words_of}
use Rattle.instance_read.specs.Lilim.{header_limits}
use Rattle.instance_read.specs.Rows.{Row, rows_of}
use Rattle.instance_read.specs.Solomon.{customer_limits}
use Rattle.instance_read.specs.WordEvidence.{numbers_evidence, word_at}
use Rattle.instance_read.specs.declared.evidence.Evidence.{Evidence}
use Rattle.instance_read.specs.declared.evidence.Evidence.TheVariants.{CustomerOutOfOrder, FirstCustomer, MissingLine, Nothing, Window, WrongWord}
use Rattle.instance_read.specs.declared.evidence.Field.{Field}
use Rattle.instance_read.specs.declared.evidence.Field.TheVariants as fields
use Rattle.instance_read.specs.declared.evidence.SolomonLine.{SolomonLine}
use Rattle.instance_read.specs.declared.evidence.SolomonLine.TheVariants.{Name, Vehicle, Number, Fleet, Customers, Columns, Depot, Customer}
use Rattle.instance_read.specs.declared.faults.ReadFault.{ReadFault}
use Rattle.instance_read.specs.declared.faults.ReadFaultKind.{ReadFaultKind}
use Rattle.instance_read.specs.declared.faults.ReadFaultKind.TheVariants.{EmptyWindow, MissingKey, TaskOrder, Truncated}
use Rattle.instance_read.specs.declared.scales.Scale.{Scale}

abbrev pub fleet_fields : List Field
fleet_fields = fields.Fleet ∷ fields.Capacity ∷ []

abbrev pub customer_fields : List Field
customer_fields = fields.Customer ∷ fields.X ∷ fields.Y ∷ fields.Demand ∷ fields.Ready ∷ fields.Due ∷ fields.Service ∷ []

-- the line that is due after this one
abbrev pub line_after : SolomonLine → SolomonLine
line_after Name = Vehicle
line_after Vehicle = Number
line_after Number = Fleet
line_after Fleet = Customers
line_after Customers = Columns
line_after Columns = Depot
line_after Depot = Customer
line_after Customer = Customer

-- what is due as the line with number n, the line that is read before it, and the line with number n; the first
-- of these lines is `due`, and a line that does not exist is empty here
abbrev pub due_line_from : ℕ → SolomonLine → List ℕ → List Row → SolomonLine × List ℕ × List ℕ
due_line_from n due before [] = (due, before, [])
due_line_from n due before (row ∷ rows) = if row.line == n then (due, before, row.text) else due_line_from n (line_after due) row.text rows

-- the details of a bad number in such a line
abbrev pub due_evidence : Scale → ReadFaultKind → List (List ℕ) → SolomonLine → Evidence
due_evidence scale kind words Fleet = numbers_evidence kind fleet_fields header_limits words
due_evidence scale kind words Depot = numbers_evidence kind customer_fields (customer_limits scale) words
due_evidence scale kind words Customer = numbers_evidence kind customer_fields (customer_limits scale) words
due_evidence scale kind words _ = Nothing

-- the number of a customer, and that of the customer before it, if there is one
abbrev pub order_evidence : List (List ℕ) → List (List ℕ) → SolomonLine → Evidence
order_evidence before words Customer = CustomerOutOfOrder (word_at words 0) (word_at before 0)
order_evidence before words _ = FirstCustomer (word_at words 0)

-- the details of a fault in the line that is due; `before` is the line before it
abbrev pub solomon_line_evidence : Scale → SolomonLine → List ℕ → List ℕ → ReadFaultKind → Evidence
solomon_line_evidence scale due before line MissingKey = WrongWord due (word_at (words_of line) 0)
solomon_line_evidence scale due before line TaskOrder = order_evidence (words_of before) (words_of line) due
solomon_line_evidence scale due before line EmptyWindow = Window (word_at (words_of line) 4) (word_at (words_of line) 5)
solomon_line_evidence scale due before line Truncated = MissingLine due
solomon_line_evidence scale due before line kind = due_evidence scale kind (words_of line) due

abbrev pub solomon_evidence : Scale → List ℕ → ReadFault → Evidence
solomon_evidence scale text fault =
    let spot = due_line_from fault.line Name [] (rows_of text) in
    solomon_line_evidence scale spot.0 spot.1 spot.2 fault.kind

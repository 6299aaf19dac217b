-- The details of a fault that a line of a Li-Lim text shows.
use Rattle.std.specs.Prelude.{ℕ, ◌==◌, ◌&&◌, not, Bool, false, if◌then◌else◌, List, [], ◌∷◌, find, length, Option, Some, None, pos}
use Rattle.text_lines.specs.Numbers.{number_of}
use Rattle.text_lines.specs.Words.{words_of}
use Rattle.plan_types.specs.declared.limits.TheConstants.{MAX_DEMAND}
use Rattle.instance_read.specs.Fields.{is_beyond, passes_test}
use Rattle.instance_read.specs.Lilim.{header_limits, task_limits}
use Rattle.instance_read.specs.Rows.{Row, rows_of}
use Rattle.instance_read.specs.WordEvidence.{numbers_evidence, stop_at, word_at}
use Rattle.instance_read.specs.declared.evidence.Evidence.{Evidence}
use Rattle.instance_read.specs.declared.evidence.Evidence.TheVariants.{NoSuchTask, Demands, FirstTask, NamesBoth, NamesNone, NamesOther, NoDepot, NoHeader, TaskOutOfOrder, Window}
use Rattle.instance_read.specs.declared.evidence.Field.{Field}
use Rattle.instance_read.specs.declared.evidence.Field.TheVariants as fields
use Rattle.instance_read.specs.declared.faults.ReadFault.{ReadFault}
use Rattle.instance_read.specs.declared.faults.ReadFaultKind.{ReadFaultKind}
use Rattle.instance_read.specs.declared.faults.ReadFaultKind.TheVariants.{EmptyWindow, PairMismatch, TaskOrder, Truncated}
use Rattle.instance_read.specs.declared.scales.Scale.{Scale}

abbrev pub header_fields : List Field
header_fields = fields.Fleet ∷ fields.Capacity ∷ fields.Speed ∷ []

abbrev pub task_fields : List Field
task_fields = fields.Number ∷ fields.X ∷ fields.Y ∷ fields.Demand ∷ fields.Earliest ∷ fields.Latest ∷ fields.Service ∷ fields.Pickup ∷ fields.Delivery ∷ []

-- the line that is read just before the line with this number, and the line with this number; a line that does
-- not exist is empty here
abbrev pub line_and_previous : ℕ → List ℕ → List Row → List ℕ × List ℕ
line_and_previous n before [] = (before, [])
line_and_previous n before (row ∷ rows) = if row.line == n then (before, row.text) else line_and_previous n row.text rows

-- the details of a bad number in a line: the first line has vehicles and capacity, each other line has a task
abbrev pub row_evidence : Scale → ReadFaultKind → List (List ℕ) → List ℕ → Evidence
row_evidence scale kind words [] = numbers_evidence kind header_fields header_limits words
row_evidence scale kind words (b ∷ before) = numbers_evidence kind task_fields (task_limits scale) words

-- the number of a task, and that of the task before it, if the line before has a task
abbrev pub order_evidence : List (List ℕ) → List (List ℕ) → Evidence
order_evidence before words = if length before == 9 then TaskOutOfOrder (word_at words 0) (word_at before 0) else FirstTask (word_at words 0)

abbrev pub missing_line : List ℕ → Evidence
missing_line [] = NoHeader
missing_line (b ∷ before) = NoDepot

-- the line has as many words as a task, and this number
abbrev pub is_task_line : ℕ → Row → Bool
is_task_line n row = length (words_of row.text) == 9 && stop_at (words_of row.text) 0 == n

-- the opposite of the fields pickup and delivery, and the task that the words name in it
abbrev pub back_reference : List (List ℕ) → Field → Field × ℕ
back_reference words fields.Pickup = (fields.Delivery, stop_at words 8)
back_reference words _ = (fields.Pickup, stop_at words 7)

-- the task names its delivery in this field, so it is a pickup, and its demand is negative
abbrev pub is_negative : List ℕ → Field → Bool
is_negative demand fields.Delivery = passes_test (is_beyond (pos 0, MAX_DEMAND)) (number_of demand)
is_negative demand _ = false

-- what is wrong with the task that a field names: it does not exist, it names another task, or the demands do
-- not match
abbrev pub partner_evidence : List (List ℕ) → Field → ℕ → Option Row → Evidence
partner_evidence words field n None = NoSuchTask field n
partner_evidence words field n (Some other) =
    let back = back_reference (words_of other.text) field in
    let demand = word_at (words_of other.text) 3 in
    if not (back.1 == stop_at words 0) then NamesOther field n other.line back.1 back.0
    else Demands field n other.line demand (word_at words 3) (is_negative (word_at words 3) field)

-- the reason why the task with these words is not half of a pair
abbrev pub pair_evidence : List Row → List (List ℕ) → Evidence
pair_evidence rows words =
    let pickup = stop_at words 7 in
    let delivery = stop_at words 8 in
    if pickup == 0
    then (if delivery == 0 then NamesNone else partner_evidence words fields.Delivery delivery (find (is_task_line delivery) rows))
    else (if delivery == 0 then partner_evidence words fields.Pickup pickup (find (is_task_line pickup) rows) else NamesBoth)

-- the details of a fault in a line; `before` is the line before it
abbrev pub line_evidence : Scale → List Row → List ℕ → List ℕ → ReadFaultKind → Evidence
line_evidence scale rows before line TaskOrder = order_evidence (words_of before) (words_of line)
line_evidence scale rows before line EmptyWindow = Window (word_at (words_of line) 4) (word_at (words_of line) 5)
line_evidence scale rows before line PairMismatch = pair_evidence rows (words_of line)
line_evidence scale rows before line Truncated = missing_line before
line_evidence scale rows before line kind = row_evidence scale kind (words_of line) before

abbrev pub lilim_evidence : Scale → List ℕ → ReadFault → Evidence
lilim_evidence scale text fault =
    let spot = line_and_previous fault.line [] (rows_of text) in
    line_evidence scale (rows_of text) spot.0 spot.1 fault.kind

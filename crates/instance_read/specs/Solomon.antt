-- The faults of a text in Solomon's format, and the problem that a text without faults spells.
use Rattle.std.specs.Prelude.{◌≡◌, ℕ, ◌+◌, ◌≤◌, Bool, true, false, not, List, [], ◌∷◌, ◌++◌, length, map, codes, Option, None, ℤ, pos}
use Rattle.std.specs.Int.RustNames.{unsigned_abs}
use Rattle.std.specs.List.{last_or}
use Rattle.std.specs.Str.{str_eq_ignore_ascii_case}
use Rattle.text_lines.specs.Lines.{lines_of}
use Rattle.text_lines.specs.Words.{words_of}
use Rattle.plan_types.specs.Instance.{Instance}
use Rattle.plan_types.specs.declared.limits.TheConstants.{MAX_DEMAND, MAX_STOP_NUMBER}
use Rattle.plan_types.specs.declared.requests.Request.{Request}
use Rattle.plan_types.specs.declared.requests.Request.TheVariants.{Single}
use Rattle.instance_read.specs.declared.faults.ReadFaultKind.{ReadFaultKind}
use Rattle.instance_read.specs.declared.faults.ReadFaultKind.TheVariants.{MissingKey, Truncated}
use Rattle.instance_read.specs.declared.scales.Scale.{Scale}
use Rattle.instance_read.specs.declared.tasks.Task.{Task}
use Rattle.instance_read.specs.Faults.{Class, OfLine, OfText, HasNoFault}
use Rattle.instance_read.specs.Fields.{value_at}
use Rattle.instance_read.specs.FieldValues.{numbers_fault}
use Rattle.instance_read.specs.Lilim.{header_limits, problem_from, stop_fault}
use Rattle.instance_read.specs.Pairs.{task_in, task_of}
use Rattle.instance_read.specs.Rows.{Row, rows_of}
use Rattle.instance_read.specs.Scales.{coordinate_range, service_range, time_range}

-- the limits of number, x, y, demand, ready, due, service
abbrev pub customer_limits : Scale → List (ℤ × ℤ)
customer_limits scale =
    (pos 0, pos MAX_STOP_NUMBER)
    ∷ coordinate_range scale ∷ coordinate_range scale
    ∷ (pos 0, MAX_DEMAND)
    ∷ time_range scale ∷ time_range scale
    ∷ service_range scale
    ∷ []

-- the faults of the words of a customer's line, which is like the line of a Li-Lim task without its last two
-- fields; `previous` is the customer before it
abbrev pub customer_fault : Scale → Option Task → List (List ℕ) → ReadFaultKind → Bool
customer_fault scale previous words kind = stop_fault (customer_limits scale) previous words kind

-- the faults of the words of a line
abbrev pub LineTest : Type 0
LineTest = List (List ℕ) → ReadFaultKind → Bool

-- the faults of the name: it may have any words
abbrev pub name_fault : LineTest
name_fault words kind = false

-- the first word is this one, in any ASCII letter case
abbrev pub begins_with : List ℕ → List (List ℕ) → Bool
begins_with word [] = false
begins_with word (first ∷ words) = str_eq_ignore_ascii_case first word

-- the faults of a line that must begin with this word
abbrev pub word_fault : List ℕ → LineTest
word_fault word words MissingKey = not (begins_with word words)
word_fault word words _ = false

-- the faults of the line with fleet and capacity
abbrev pub fleet_fault : LineTest
fleet_fault words kind = numbers_fault 2 header_limits words kind

-- the faults of the lines before the depot, line by line
abbrev pub heading : List LineTest
heading =
    name_fault ∷ word_fault (codes "VEHICLE") ∷ word_fault (codes "NUMBER") ∷ fleet_fault
    ∷ word_fault (codes "CUSTOMER") ∷ word_fault (codes "CUST")
    ∷ []

-- the faults of a line after these lines: the first lines have the faults `due`, each other line has a customer
abbrev pub line_fault : Scale → List LineTest → List Row → Row → ReadFaultKind → Bool
line_fault scale [] before row kind = customer_fault scale (last_or None (map task_of before)) (words_of row.text) kind
line_fault scale (test ∷ due) [] row kind = test (words_of row.text) kind
line_fault scale (test ∷ due) (b ∷ before) row kind = line_fault scale due before row kind

-- all faults of these lines, of which the first have the faults `due`; `end` is the line after the last
abbrev pub LinesFault : Scale → ℕ → List LineTest → List Row → Class → ℕ → ReadFaultKind → Type 0
-- a line has a fault
LinesFault scale end due rows OfLine line kind =
    (before : List Row) × (row : Row) × (after : List Row)
    × (rows ≡ before ++ row ∷ after) × (row.line ≡ line) × (line_fault scale due before row kind ≡ true)
-- there is no depot
LinesFault scale end due rows OfText line Truncated = (length rows ≤ length due) × (line ≡ end)
LinesFault scale end due rows OfText line _ = ⊥

-- all faults of a text that is read with this scale
abbrev pub SolomonFault : Scale → List ℕ → Class → ℕ → ReadFaultKind → Type 0
SolomonFault scale text = LinesFault scale (length (lines_of text) + 1) heading (rows_of text)

-- the request of a customer, under the customer's number
abbrev pub single_of : Task → ℕ × Request
single_of t = (t.stop.number, Single t.stop)

-- the problem of a fleet, a capacity, the depot and the customers: that of Li-Lim tasks, except that each
-- customer is a request of its own
abbrev pub singles_problem : ℕ → ℕ → Task → List Task → Instance
singles_problem fleet capacity depot customers = record (problem_from fleet capacity depot customers) { requests = map single_of customers }

-- the problem of these lines, read with this scale: the fourth has fleet and capacity, the seventh the depot, and
-- each later one a customer
abbrev pub IsProblemOf : Scale → List Row → Instance → Type 0
IsProblemOf scale (name ∷ vehicle ∷ number ∷ fleet ∷ customer ∷ columns ∷ depot ∷ customers) problem =
    let words = words_of fleet.text in
    problem ≡ singles_problem (unsigned_abs (value_at words 0)) (unsigned_abs (value_at words 1)) (task_in scale depot) (map (task_in scale) customers)
IsProblemOf scale rows problem = ⊥

-- a text that is read with this scale spells a problem: the text has no fault, and the problem is that of its
-- lines
abbrev pub SpellsSolomon : Scale → List ℕ → Instance → Type 0
SpellsSolomon scale text problem = HasNoFault (SolomonFault scale text) × IsProblemOf scale (rows_of text) problem

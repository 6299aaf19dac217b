-- The faults of a Li-Lim text, and the problem that a text without faults spells.
use Rattle.std.specs.Prelude.{◌≡◌, ℕ, ◌+◌, ◌<◌, Bool, true, false, not, ◌==◌, List, [], ◌∷◌, ◌++◌, length, map, drop, Option, Some, None, ℤ, pos, neg_ℤ, int_lt, Contains}
use Rattle.std.specs.Int.RustNames.{unsigned_abs}
use Rattle.std.specs.List.{last_or}
use Rattle.text_lines.specs.Lines.{lines_of}
use Rattle.text_lines.specs.Words.{words_of}
use Rattle.plan_types.specs.Instance.{Instance}
use Rattle.plan_types.specs.declared.limits.TheConstants.{MAX_CAPACITY, MAX_DEMAND, MAX_FLEET, MAX_STOP_NUMBER}
use Rattle.plan_types.specs.declared.requests.Kind.TheVariants.{LiLim}
use Rattle.plan_types.specs.declared.requests.Stop.{Stop}
use Rattle.instance_read.specs.declared.faults.ReadFaultKind.{ReadFaultKind}
use Rattle.instance_read.specs.declared.faults.ReadFaultKind.TheVariants.{BadNumber, Range, FieldCount, TaskOrder, PairMismatch, EmptyWindow, TooManyStops, Truncated}
use Rattle.instance_read.specs.declared.scales.Scale.{Scale}
use Rattle.instance_read.specs.declared.tasks.Task.{Task}
use Rattle.instance_read.specs.Faults.{Class, OfLine, OfText, HasNoFault}
use Rattle.instance_read.specs.Fields.{field, value_at, passes_test, has_no_number, is_beyond, any_beyond, exceeds}
use Rattle.instance_read.specs.Pairs.{task_in, task_of, is_mismatched, pairs_of, last_number}
use Rattle.instance_read.specs.Rows.{Row, rows_of}
use Rattle.instance_read.specs.Scales.{coordinate_range, service_range, time_range}

-- the limits of fleet and capacity; the speed after them may be any number
abbrev pub header_limits : List (ℤ × ℤ)
header_limits = (pos 1, pos MAX_FLEET) ∷ (pos 0, pos MAX_CAPACITY) ∷ []

-- the limits of number, x, y, demand, earliest, latest, service, pickup, delivery
abbrev pub task_limits : Scale → List (ℤ × ℤ)
task_limits scale =
    (pos 0, pos MAX_STOP_NUMBER)
    ∷ coordinate_range scale ∷ coordinate_range scale
    ∷ (neg_ℤ MAX_DEMAND, MAX_DEMAND)
    ∷ time_range scale ∷ time_range scale
    ∷ service_range scale
    ∷ (pos 0, pos MAX_STOP_NUMBER) ∷ (pos 0, pos MAX_STOP_NUMBER)
    ∷ []

-- the faults of the words of the first line
abbrev pub header_fault : List (List ℕ) → ReadFaultKind → Bool
header_fault words FieldCount = not (length words == 3)
header_fault words BadNumber = has_no_number words
header_fault words Range = any_beyond header_limits words
header_fault words _ = false

-- the first task does not have number 0, or another task's number is not greater than that of the task before
-- it
abbrev pub is_out_of_order : Option Task → ℤ → Bool
is_out_of_order None z = is_beyond (pos 0, pos 0) z
is_out_of_order (Some previous) z = not (int_lt (pos previous.stop.number) z)

-- the faults of the words of a line with a stop whose fields have these limits; `previous` is the task of the
-- line before it
abbrev pub stop_fault : List (ℤ × ℤ) → Option Task → List (List ℕ) → ReadFaultKind → Bool
stop_fault limits previous words FieldCount = not (length words == length limits)
stop_fault limits previous words BadNumber = has_no_number words
stop_fault limits previous words TooManyStops = passes_test (λ z. int_lt (pos MAX_STOP_NUMBER) z) (field words 0)
stop_fault limits previous words Range = any_beyond limits words
stop_fault limits previous words TaskOrder = passes_test (is_out_of_order previous) (field words 0)
stop_fault limits previous words EmptyWindow = exceeds (field words 4) (field words 5)
stop_fault limits previous words _ = false

-- the faults of the words of a task's line; `previous` is the task before it
abbrev pub task_fault : Scale → Option Task → List (List ℕ) → ReadFaultKind → Bool
task_fault scale previous words kind = stop_fault (task_limits scale) previous words kind

-- the faults of a line after these lines: the first line is the header, the others are tasks
abbrev pub row_fault : Scale → List Row → Row → ReadFaultKind → Bool
row_fault scale [] row kind = header_fault (words_of row.text) kind
row_fault scale (header ∷ before) row kind = task_fault scale (last_or None (map task_of before)) (words_of row.text) kind

-- all tasks except the first, which is the depot
unfoldable pub customers_of : List ℕ → List Task
customers_of text = map task_of (drop 2 (rows_of text))

-- all faults of a text that is read with this scale
abbrev pub LilimFault : Scale → List ℕ → Class → ℕ → ReadFaultKind → Type 0
-- a line that is read has a fault
LilimFault scale text OfLine line kind =
    (before : List Row) × (row : Row) × (after : List Row)
    × (rows_of text ≡ before ++ row ∷ after) × (row.line ≡ line) × (row_fault scale before row kind ≡ true)
-- a customer's task is not half of a pair
LilimFault scale text OfText line PairMismatch =
    (t : Task) × Contains (customers_of text) t × (t.line ≡ line) × (is_mismatched (customers_of text) t ≡ true)
-- there is no header, or no depot
LilimFault scale text OfText line Truncated = (length (rows_of text) < 2) × (line ≡ length (lines_of text) + 1)
LilimFault scale text OfText line _ = ⊥

-- the depot: its demand and its service are 0
abbrev pub depot_from : Task → Stop
depot_from t = record {
  number = 0;
  x = t.stop.x;
  y = t.stop.y;
  demand = pos 0;
  earliest = t.stop.earliest;
  latest = t.stop.latest;
  service = 0;
}

-- the problem of a fleet, a capacity, the depot's task and the customers' tasks: it has a pair for each pickup,
-- and its next number is one above that of the last task
abbrev pub problem_from : ℕ → ℕ → Task → List Task → Instance
problem_from fleet capacity depot customers = record {
  kind = LiLim;
  depot = depot_from depot;
  capacity = capacity;
  fleet = fleet;
  requests = pairs_of customers;
  next_number = last_number depot customers + 1;
}

-- the problem of these lines, read with this scale; the header has the fleet and the capacity
abbrev pub problem_of : Scale → Row → Row → List Row → Instance
problem_of scale header depot customers =
    let words = words_of header.text in
    problem_from (unsigned_abs (value_at words 0)) (unsigned_abs (value_at words 1)) (task_in scale depot) (map (task_in scale) customers)

-- a text that is read with this scale spells a problem: the text has no fault, and the problem is that of its
-- lines
abbrev pub SpellsLilim : Scale → List ℕ → Instance → Type 0
SpellsLilim scale text problem =
    HasNoFault (LilimFault scale text)
    × (header : Row) × (depot : Row) × (customers : List Row)
    × (rows_of text ≡ header ∷ depot ∷ customers) × (problem ≡ problem_of scale header depot customers)

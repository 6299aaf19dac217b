-- The faults of a solution text.
use Rattle.std.specs.Prelude.{◌≡◌, ℕ, ◌+◌, ◌<◌, ◌≤◌, Bool, true, false, not, ◌&&◌, is_none, List, [], length, take, slice_index_or, Result, Ok, Err, if◌then◌else◌}
use Rattle.std.specs.List.{AllByRecursion, list_any}
use Rattle.std.specs.Option.{option_map_or}
use Rattle.text_lines.specs.Lines.{lines_of}
use Rattle.text_lines.specs.Words.{is_blank_line}
use Rattle.sol_text.specs.LineShapes.{customer_words, cost_word, is_route_line, is_cost_line}
use Rattle.sol_text.specs.Values.{customer_of, cost_of, routes_in_lines, solution_in_lines}
use Rattle.sol_text.specs.declared.faults.SolFault.{SolFault}
use Rattle.sol_text.specs.declared.faults.SolFaultKind.{SolFaultKind}
use Rattle.sol_text.specs.declared.faults.SolFaultKind.TheVariants.{BadLine, BadNumber, NoCost, OutOfMemory}
use Rattle.plan_types.specs.declared.solutions.Solution.{Solution}

-- not blank, not a route line, and not a cost line with exactly one word
abbrev pub is_bad_line : List ℕ → Bool
is_bad_line line = not (is_blank_line line) && not (is_route_line line) && not (is_cost_line line)

-- a route line with a word that is not a customer
abbrev pub has_bad_customer : List ℕ → Bool
has_bad_customer line = option_map_or (list_any (λ word. is_none (customer_of word))) (customer_words line) false

-- a cost line whose word is not a cost
abbrev pub has_bad_cost : List ℕ → Bool
has_bad_cost line = option_map_or (λ word. is_none (cost_of word)) (cost_word line) false

abbrev pub has_bad_number : List ℕ → Bool
has_bad_number line = if is_route_line line then has_bad_customer line else has_bad_cost line

-- the line at this place, counted from 0, is read: no line before it is a cost line
abbrev pub LineCounts : List (List ℕ) → ℕ → Type 0
LineCounts lines k = (k < length lines) × AllByRecursion (λ line. is_cost_line line ≡ false) (take k lines)

-- the line at a place
abbrev pub line_at : List (List ℕ) → ℕ → List ℕ
line_at lines k = slice_index_or lines k []

-- the faults of lines; places are counted from 0, and `NoCost` is at the place after the last line
abbrev pub FaultInLines : List (List ℕ) → ℕ → SolFaultKind → Type 0
FaultInLines lines k BadLine = LineCounts lines k × (is_bad_line (line_at lines k) ≡ true)
FaultInLines lines k BadNumber = LineCounts lines k × (has_bad_number (line_at lines k) ≡ true)
FaultInLines lines k NoCost = (k ≡ length lines) × AllByRecursion (λ line. is_cost_line line ≡ false) lines
FaultInLines lines k OutOfMemory = ⊥

-- a fault of a text, with its line, counted from 1
abbrev pub Fault : List ℕ → ℕ → SolFaultKind → Type 0
Fault text line kind = (k : ℕ) × (line ≡ k + 1) × FaultInLines (lines_of text) k kind

abbrev pub HasNoFault : List ℕ → Type 0
HasNoFault text = (line : ℕ) (kind : SolFaultKind) → Fault text line kind → ⊥

-- a text spells a solution if the text has no fault and the solution is that of its lines
abbrev pub Spells : List ℕ → Solution → Type 0
Spells text s = HasNoFault text × (s ≡ solution_in_lines (lines_of text))

-- a fault in a line such that no earlier line has a fault
abbrev pub IsFirstFault : List ℕ → SolFault → Type 0
IsFirstFault text f = Fault text f.line f.kind × ((line : ℕ) (kind : SolFaultKind) → Fault text line kind → f.line ≤ line)

-- out of memory, which has no line
abbrev pub out_of_memory : SolFault
out_of_memory = record { line = 0; kind = OutOfMemory }

-- this value was read, unless memory ran out
abbrev pub IsUnlessOutOfMemory : {X : Type 0} → Result X SolFault → X → Type 0
IsUnlessOutOfMemory (Ok read) x = read ≡ x
IsUnlessOutOfMemory (Err f) x = f ≡ out_of_memory

-- ---- the routes and the cost, each by itself

-- no line before this place, counted from 0, is a route line
abbrev pub is_in_head : List (List ℕ) → ℕ → Bool
is_in_head lines k = not (list_any is_route_line (take k lines))

-- the faults of routes, whatever the cost line has; if the head is skipped, its lines have no faults
abbrev pub RoutesFaultInLines : Bool → List (List ℕ) → ℕ → SolFaultKind → Type 0
RoutesFaultInLines skips_head lines k BadLine = LineCounts lines k × (is_bad_line (line_at lines k) ≡ true) × ((skips_head && is_in_head lines k) ≡ false)
RoutesFaultInLines skips_head lines k BadNumber = LineCounts lines k × (has_bad_customer (line_at lines k) ≡ true)
RoutesFaultInLines skips_head lines k NoCost = ⊥
RoutesFaultInLines skips_head lines k OutOfMemory = ⊥

-- the faults of the cost: its word is not a cost, or there is no cost line
abbrev pub CostFaultInLines : List (List ℕ) → ℕ → SolFaultKind → Type 0
CostFaultInLines lines k BadLine = ⊥
CostFaultInLines lines k BadNumber = LineCounts lines k × (has_bad_cost (line_at lines k) ≡ true)
CostFaultInLines lines k NoCost = (k ≡ length lines) × AllByRecursion (λ line. is_cost_line line ≡ false) lines
CostFaultInLines lines k OutOfMemory = ⊥

-- a fault of the routes of a text whose head is skipped
abbrev pub RoutesFault : List ℕ → ℕ → SolFaultKind → Type 0
RoutesFault text line kind = (k : ℕ) × (line ≡ k + 1) × RoutesFaultInLines true (lines_of text) k kind

-- a fault of the cost of a text
abbrev pub CostFault : List ℕ → ℕ → SolFaultKind → Type 0
CostFault text line kind = (k : ℕ) × (line ≡ k + 1) × CostFaultInLines (lines_of text) k kind

-- a text spells routes if they have no fault and are those of its lines
abbrev pub SpellsRoutes : List ℕ → List (List ℕ) → Type 0
SpellsRoutes text routes = ((line : ℕ) (kind : SolFaultKind) → RoutesFault text line kind → ⊥) × (routes ≡ routes_in_lines (lines_of text))

-- a fault of the routes such that no earlier line has one
abbrev pub IsFirstRoutesFault : List ℕ → SolFault → Type 0
IsFirstRoutesFault text f = RoutesFault text f.line f.kind × ((line : ℕ) (kind : SolFaultKind) → RoutesFault text line kind → f.line ≤ line)

-- the first fault of a text is one of its cost, and these are its routes
pub record LacksOnlyCost (text : List ℕ) (routes : List (List ℕ)) (fault : SolFault) : Type 0 where
  pub first : IsFirstFault text fault
  pub in_cost : CostFault text fault.line fault.kind
  pub routes_are : routes ≡ routes_in_lines (lines_of text)

-- the first fault of a text is not one of its cost
abbrev pub HasFaultyRoutes : List ℕ → SolFault → Type 0
HasFaultyRoutes text fault = IsFirstFault text fault × (CostFault text fault.line fault.kind → ⊥)

-- a text has these routes, and this cost or this fault of its cost
abbrev pub HasPrintedCost : List ℕ → List (List ℕ) → Result ℕ SolFault → Type 0
HasPrintedCost text routes (Ok cost) = Spells text (record { routes = routes; cost = cost })
HasPrintedCost text routes (Err fault) = LacksOnlyCost text routes fault

-- The text after the cost line of a solution, which the reader ignores. Lines count from 1.
use Rattle.std.specs.Prelude.{◌≡◌, ◌<◌, ℕ, ◌+◌, List, [], ◌∷◌, length, Option, Some, None, if◌then◌else◌}
use Rattle.text_lines.specs.Lines.{lines_of}
use Rattle.text_lines.specs.Words.{is_blank_line}
use Rattle.sol_text.specs.Faults.{IsFirstFault, Spells}
use Rattle.sol_text.specs.LineShapes.{is_cost_line}
use Rattle.sol_text.specs.declared.faults.SolFault.{SolFault}
use Rattle.plan_types.specs.declared.solutions.Solution.{Solution}

-- the number of the first line that is not blank; the first line of the list has number n
abbrev pub first_nonblank : ℕ → List (List ℕ) → Option ℕ
first_nonblank n [] = None
first_nonblank n (line ∷ lines) = if is_blank_line line then first_nonblank (n + 1) lines else Some n

-- the number of the first line that is not blank after the first cost line
abbrev pub first_nonblank_after_cost : ℕ → List (List ℕ) → Option ℕ
first_nonblank_after_cost n [] = None
first_nonblank_after_cost n (line ∷ lines) = if is_cost_line line then first_nonblank (n + 1) lines else first_nonblank_after_cost (n + 1) lines

-- the number of the first line after the cost line that is not blank, in the text of a solution
abbrev pub line_after_cost : List ℕ → Option ℕ
line_after_cost text = first_nonblank_after_cost 1 (lines_of text)

-- the lines that the reader reads: those up to the first cost line, and that line
abbrev pub up_to_cost : List (List ℕ) → List (List ℕ)
up_to_cost [] = []
up_to_cost (line ∷ lines) = line ∷ (if is_cost_line line then [] else up_to_cost lines)

-- law: if two files have the same lines up to and including the first cost line, they spell the same solution or
-- have the same first fault
abbrev pub ReadingEndsAtCost : Type 0
ReadingEndsAtCost = (text other : List ℕ) → up_to_cost (lines_of text) ≡ up_to_cost (lines_of other)
    → ((s : Solution) → Spells text s → Spells other s) × ((f : SolFault) → IsFirstFault text f → IsFirstFault other f)

-- law: the line that `line_after_cost` returns is after the lines that the reader reads
abbrev pub ReportedLineIsUnread : Type 0
ReportedLineIsUnread = (text : List ℕ) (n : ℕ) → line_after_cost text ≡ Some n → length (up_to_cost (lines_of text)) < n

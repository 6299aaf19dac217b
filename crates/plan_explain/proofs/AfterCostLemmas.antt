-- Reading a solution ends at the first cost line.
use Rattle.std.proofs.Common.{◌≡◌, ◌∙◌, ℕ, zero, suc, ◌+◌, ◌≤◌, ◌==◌, Bool, true, false, List, [], ◌∷◌, length, take, Option, Some, None, is_some, refl, sym, ap, subst, inl, inr, arith, one-add}
use Rattle.std.specs.List.{AllByRecursion, before_first, find, position_or_len}
use Rattle.std.proofs.lemmas.Bool.{cases_Bool}
use Rattle.std.proofs.lemmas.Bool.Decides.{eqb_tells}
use Rattle.text_lines.specs.Lines.{lines_of}
use Rattle.text_lines.specs.Words.{is_blank_line}
use Rattle.sol_text.specs.Faults.{Fault, FaultInLines, LineCounts, has_bad_number, is_bad_line, line_at}
use Rattle.sol_text.specs.LineShapes.{is_cost_line, only_word}
use Rattle.sol_text.specs.Values.{solution_in_lines}
use Rattle.sol_text.specs.declared.faults.SolFaultKind.{SolFaultKind}
use Rattle.sol_text.specs.declared.faults.SolFaultKind.TheVariants.{BadLine, BadNumber, NoCost, OutOfMemory}
use Rattle.plan_explain.specs.AfterCost.{ReadingEndsAtCost, ReportedLineIsUnread, first_nonblank_after_cost, first_nonblank, up_to_cost}

-- the result of `line_after_cost` for the remaining lines, after the cost line (true) or before it (false)
abbrev pub first_nonblank_from : Bool → ℕ → List (List ℕ) → Option ℕ
first_nonblank_from true n lines = first_nonblank n lines
first_nonblank_from false n lines = first_nonblank_after_cost n lines

none_some : {X : Type 0} (x : X) → None ≡ Some x → ⊥
none_some x e = absurd cc

-- ---- only the lines up to the cost line matter
abbrev HasNoCost : List (List ℕ) → Type 0
HasNoCost lines = AllByRecursion (λ line. is_cost_line line ≡ false) lines

read_at : (line : List ℕ) (lines : List (List ℕ)) → is_cost_line line ≡ true → up_to_cost (line ∷ lines) ≡ line ∷ []
read_at line lines is = rw is refl

read_on : (line : List ℕ) (lines : List (List ℕ)) → is_cost_line line ≡ false → up_to_cost (line ∷ lines) ≡ line ∷ up_to_cost lines
read_on line lines is = rw is refl

-- Two files have the same lines up to the cost line, and it is not the first line. Then the first lines are
-- equal, and the remaining lines are the same up to the cost line.
rest_same : (line other : List ℕ) (lines others : List (List ℕ)) → up_to_cost (line ∷ lines) ≡ up_to_cost (other ∷ others) → is_cost_line line ≡ false
    → (line ≡ other) × (is_cost_line other ≡ false) × (up_to_cost lines ≡ up_to_cost others)
rest_same line other lines others same apart =
    let head : line ≡ other = cc in
    let too = ap is_cost_line (sym head) ∙ apart in
    let more : line ∷ up_to_cost lines ≡ other ∷ up_to_cost others = sym (read_on line lines apart) ∙ same ∙ read_on other others too in
    (head, too, cc)

counts_same : (lines others : List (List ℕ)) (k : ℕ) → up_to_cost lines ≡ up_to_cost others → LineCounts lines k → LineCounts others k × (line_at others k ≡ line_at lines k)
counts_same [] others k same counts = absurd (let few = counts.0 in omega arith)
counts_same (line ∷ lines) [] k same counts = absurd cc
counts_same (line ∷ lines) (other ∷ others) zero same counts = ((omega arith, tt), cc)
counts_same (line ∷ lines) (other ∷ others) (suc k) same counts =
    let following = rest_same line other lines others same counts.1.0 in
    let few = counts.0 in
    let rest = counts_same lines others k following.2 (omega arith, counts.1.1) in
    let within = rest.0.0 in
    ((omega arith, (following.1, rest.0.1)), rest.1)

-- without a cost line every line is read
all_same : (lines others : List (List ℕ)) → up_to_cost lines ≡ up_to_cost others → HasNoCost lines → lines ≡ others
all_same [] [] same none = refl
all_same [] (other ∷ others) same none = absurd cc
all_same (line ∷ lines) [] same none = absurd cc
all_same (line ∷ lines) (other ∷ others) same none =
    let following = rest_same line other lines others same none.0 in
    let head = following.0 in
    let rest = all_same lines others following.2 none.1 in
    cc

-- ---- the faults are those of the lines that are read
fault_same : (lines others : List (List ℕ)) (k : ℕ) (kind : SolFaultKind) → up_to_cost lines ≡ up_to_cost others → FaultInLines lines k kind → FaultInLines others k kind
fault_same lines others k BadLine same fault = let read = counts_same lines others k same fault.0 in (read.0, ap is_bad_line read.1 ∙ fault.1)
fault_same lines others k BadNumber same fault = let read = counts_same lines others k same fault.0 in (read.0, ap has_bad_number read.1 ∙ fault.1)
fault_same lines others k NoCost same fault = subst (λ (ls : List (List ℕ)). FaultInLines ls k NoCost) (all_same lines others same fault.1) fault
fault_same lines others k OutOfMemory same fault = fault

-- ---- the solution is that of the lines that are read
find_read : (lines : List (List ℕ)) → find is_cost_line (up_to_cost lines) ≡ find is_cost_line lines
find_read [] = refl
find_read (line ∷ lines) = elim (cases_Bool (is_cost_line line)) [
  | inl is ↦ rw is refl
  | inr apart ↦ rw apart (find_read lines)
]

take_one : (n : ℕ) (line : List ℕ) (lines : List (List ℕ)) → take (1 + n) (line ∷ lines) ≡ line ∷ take n lines
take_one n line lines = rw (one-add n) refl

routes_read : (lines : List (List ℕ)) → before_first is_cost_line (up_to_cost lines) ≡ before_first is_cost_line lines
routes_read [] = refl
routes_read (line ∷ lines) = elim (cases_Bool (is_cost_line line)) [
  | inl is ↦ rw is refl
  | inr apart ↦ rw apart (
      take_one (position_or_len is_cost_line (up_to_cost lines)) line (up_to_cost lines) ∙ ap (λ (ls : List (List ℕ)). line ∷ ls) (routes_read lines)
      ∙ sym (take_one (position_or_len is_cost_line lines) line lines))
]

solution_read : (lines : List (List ℕ)) → solution_in_lines (up_to_cost lines) ≡ solution_in_lines lines
solution_read lines = rw (find_read lines, routes_read lines) refl

-- ---- two files with the same lines up to the cost line
module _ (text other : List ℕ) (same : up_to_cost (lines_of text) ≡ up_to_cost (lines_of other)) where
  fault_to : (line : ℕ) (kind : SolFaultKind) → Fault text line kind → Fault other line kind
  fault_to line kind fault = (fault.0, fault.1, fault_same (lines_of text) (lines_of other) fault.0 kind same fault.2)

  solution_same : solution_in_lines (lines_of text) ≡ solution_in_lines (lines_of other)
  solution_same = sym (solution_read (lines_of text)) ∙ ap solution_in_lines same ∙ solution_read (lines_of other)

pub reading_ends_at_cost : ReadingEndsAtCost
reading_ends_at_cost text other same = (
  λ s spells. (λ line kind fault. spells.0 line kind (fault_to other text (sym same) line kind fault), spells.1 ∙ solution_same text other same),
  λ f first. (fault_to text other same f.line f.kind first.0, λ line kind fault. first.1 line kind (fault_to other text (sym same) line kind fault)),
)

-- ---- the line that `line_after_cost` returns
filled_from_on : (lines : List (List ℕ)) (n m : ℕ) → first_nonblank n lines ≡ Some m → n ≤ m
filled_from_on [] n m is = absurd (none_some m is)
filled_from_on (line ∷ lines) n m is = elim (cases_Bool (is_blank_line line)) [
  | inl blank ↦ (let later = filled_from_on lines (n + 1) m (rw blank at is) in omega arith)
  | inr filled ↦ (let here : Some n ≡ Some m = rw filled at is in let at : n ≡ m = cc in omega arith)
]

after_read : (lines : List (List ℕ)) (n m : ℕ) → first_nonblank_after_cost n lines ≡ Some m → n + length (up_to_cost lines) ≤ m
after_read [] n m is = absurd (none_some m is)
after_read (line ∷ lines) n m is = elim (cases_Bool (is_cost_line line)) [
  | inl cost ↦ (
      let later = filled_from_on lines (n + 1) m (rw cost at is) in
      let one = ap length (read_at line lines cost) in
      omega arith)
  | inr apart ↦ (
      let later = after_read lines (n + 1) m (rw apart at is) in
      let more = ap length (read_on line lines apart) in
      omega arith)
]

pub reported_are_unread : ReportedLineIsUnread
reported_are_unread text n is = let later = after_read (lines_of text) 1 n is in omega arith

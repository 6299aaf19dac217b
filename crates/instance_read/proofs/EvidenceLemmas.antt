-- The evidence for a bad number is the first bad number in its line.
use Rattle.std.proofs.Common.{◌≡◌, ℕ, zero, suc, ◌+◌, ◌<◌, true, false, cond, ◌⊎◌, inl, inr, ⊎_elim, List, [], ◌∷◌, ◌++◌, length, drop, Some, refl, sym, ap, subst, ◌∙◌, arith, ℤ}
use Rattle.std.specs.Prelude.{◌||◌, ◌==◌, slice_get, slice_index_or}
use Rattle.std.proofs.lemmas.Bool.{cases_Bool, eq-eqb, false_from_ne_true, eqb-true, false≢true, or_from, or_left, or_right}
use Rattle.text_lines.specs.Lines.{lines_of}
use Rattle.text_lines.specs.Numbers.{number_of}
use Rattle.text_lines.specs.Words.{is_blank_line, words_of}
use Rattle.instance_read.specs.EvidenceLaws.{any_faulty, EvidenceShowsTheWord, IsFirstWord, IsWordFault, NumbersShowTheWord, ShowsWord, fields_after, limits_after}
use Rattle.instance_read.specs.Faults.{Class, OfLine, OfText}
use Rattle.instance_read.specs.Fields.{any_beyond, has_no_number, is_beyond, is_no_number, passes_test}
use Rattle.instance_read.specs.Lilim.{LilimFault, header_limits, row_fault}
use Rattle.instance_read.specs.LilimEvidence.{header_fields, line_evidence, row_evidence, line_and_previous, task_fields}
use Rattle.instance_read.specs.Lilim.{task_limits}
use Rattle.instance_read.specs.Rows.{Row, rows_from, rows_of}
use Rattle.instance_read.specs.TaskFaults.{LinesAbove}
use Rattle.instance_read.specs.WordEvidence.{faulty_word, is_faulty, numbers_evidence}
use Rattle.instance_read.specs.declared.scales.Scale.{Scale}
use Rattle.instance_read.specs.declared.evidence.Evidence.{Evidence}
use Rattle.instance_read.specs.declared.evidence.Evidence.TheVariants.{Word}
use Rattle.instance_read.specs.declared.evidence.Field.{Field}
use Rattle.instance_read.specs.declared.evidence.Field.TheVariants.{ExtraWord}
use Rattle.instance_read.specs.declared.faults.ReadFaultKind.{ReadFaultKind}
use Rattle.instance_read.specs.declared.faults.ReadFaultKind.TheVariants.{BadNumber, Range}
use Rattle.instance_read.proofs.RowLemmas.{rows_blank, rows_nil, rows_read}
use Rattle.instance_read.proofs.TaskFaultLemmas.{rows_above}

module _ (kind : ReadFaultKind) (fields : List Field) (limits : List (ℤ × ℤ)) where
  abbrev word_of : ℕ → List ℕ → Evidence
  word_of k word = Word (slice_index_or fields k ExtraWord) word (slice_get limits k)

  abbrev IsReadResult : ℕ → List (List ℕ) → Type 0
  IsReadResult k words = IsFirstWord kind fields limits k words (faulty_word kind fields limits k words)

  here_found : (k : ℕ) (w : List ℕ) (words : List (List ℕ)) → is_faulty kind (slice_get limits k) w ≡ true → IsReadResult k (w ∷ words)
  here_found k w words here =
      let at : k ≡ k + 0 = omega arith in
      record {
        front = [];
        word = w;
        back = words;
        splits = refl;
        is = ap (λ b. cond b (word_of k w) (faulty_word kind fields limits (k + 1) words)) here ∙ ap (λ n. word_of n w) at;
        at_fault = ap (λ n. is_faulty kind (slice_get limits n) w) (sym at) ∙ here;
        first = refl;
      }

  later_found : (k : ℕ) (w : List ℕ) (words : List (List ℕ)) → is_faulty kind (slice_get limits k) w ≡ false → IsReadResult (k + 1) words → IsReadResult k (w ∷ words)
  later_found k w words fine rest =
      let at : k + 1 + length rest.front ≡ k + suc (length rest.front) = omega arith in
      record {
        front = w ∷ rest.front;
        word = rest.word;
        back = rest.back;
        splits = ap (λ ws. w ∷ ws) rest.splits;
        is = ap (λ b. cond b (word_of k w) (faulty_word kind fields limits (k + 1) words)) fine ∙ rest.is ∙ ap (λ n. word_of n rest.word) at;
        at_fault = ap (λ n. is_faulty kind (slice_get limits n) rest.word) (sym at) ∙ rest.at_fault;
        first = or_from _ _ fine rest.first;
      }

  found : (k : ℕ) (words : List (List ℕ)) → any_faulty kind limits k words ≡ true → IsReadResult k words
  found k [] e = absurd (false≢true e)
  found k (w ∷ words) e =
      ⊎_elim
      (λ here. here_found k w words here)
      (λ fine. later_found k w words fine (found (k + 1) words (sym (ap (λ b. b || any_faulty kind limits (k + 1) words) fine) ∙ e)))
      (cases_Bool (is_faulty kind (slice_get limits k) w))

-- a line with a word that is not a number has a word at fault
no_number : (limits : List (ℤ × ℤ)) (k : ℕ) (words : List (List ℕ)) → has_no_number words ≡ true → any_faulty BadNumber limits k words ≡ true
no_number limits k [] e = absurd (false≢true e)
no_number limits k (w ∷ words) e =
    ⊎_elim
    (λ here. or_left _ _ here)
    (λ fine. or_right _ _ (no_number limits (k + 1) words (sym (ap (λ b. b || has_no_number words) fine) ∙ e)))
    (cases_Bool (is_no_number w))

drop_cases : {X : Type 0} (xs : List X) (k : ℕ) → (drop k xs ≡ []) ⊎ ((x : X) × (slice_get xs k ≡ Some x) × (drop k xs ≡ x ∷ drop (k + 1) xs))
drop_cases [] zero = inl refl
drop_cases [] (suc k) = inl refl
drop_cases (x ∷ xs) zero = inr (x, refl, refl)
drop_cases (x ∷ xs) (suc k) =
    ⊎_elim
    (λ none. inl none)
    (λ some. let at : suc (k + 1) ≡ suc k + 1 = omega arith in inr (some.0, some.1, some.2 ∙ ap (λ n. some.0 ∷ drop n (x ∷ xs)) at))
    (drop_cases xs k)

beyond_here : (limits : List (ℤ × ℤ)) (k : ℕ) (w : List ℕ) (words : List (List ℕ)) (l : ℤ × ℤ) → slice_get limits k ≡ Some l
    → (any_beyond (drop (k + 1) limits) words ≡ true → any_faulty Range limits (k + 1) words ≡ true)
    → any_beyond (l ∷ drop (k + 1) limits) (w ∷ words) ≡ true → any_faulty Range limits k (w ∷ words) ≡ true
beyond_here limits k w words l at rest e =
    ⊎_elim
    (λ here. or_left _ _ (ap (λ o. is_faulty Range o w) at ∙ here))
    (λ fine. or_right _ _ (rest (sym (ap (λ b. b || any_beyond (drop (k + 1) limits) words) fine) ∙ e)))
    (cases_Bool (passes_test (is_beyond l) (number_of w)))

none_beyond : (limits : List (ℤ × ℤ)) → any_beyond limits [] ≡ false
none_beyond [] = refl
none_beyond (l ∷ limits) = refl

-- a line with a number beyond its limits has a word at fault
beyond : (limits : List (ℤ × ℤ)) (k : ℕ) (words : List (List ℕ)) → any_beyond (drop k limits) words ≡ true → any_faulty Range limits k words ≡ true
beyond limits k [] e = absurd (false≢true (sym (none_beyond (drop k limits)) ∙ e))
beyond limits k (w ∷ words) e =
    ⊎_elim
    (λ none. absurd (false≢true (ap (λ l. any_beyond l (w ∷ words)) (sym none) ∙ e)))
    (λ some. beyond_here limits k w words some.0 some.1 (beyond limits (k + 1) words) (ap (λ l. any_beyond l (w ∷ words)) (sym some.2) ∙ e))
    (drop_cases limits k)

-- the lines that are read are not blank
abbrev AreFilled : List Row → Type 0
AreFilled [] = Unit {0}
AreFilled (row ∷ rows) = (is_blank_line row.text ≡ false) × AreFilled rows

rows_filled : (n : ℕ) (ls : List (List ℕ)) → AreFilled (rows_from n ls)
rows_filled n [] = let P : List Row → Type 0 = AreFilled in subst P (sym (rows_nil n)) tt
rows_filled n (l ∷ ls) =
    let P : List Row → Type 0 = AreFilled in
    ⊎_elim
    (λ blank. subst P (sym (rows_blank n l ls blank)) (rows_filled (n + 1) ls))
    (λ read. subst P (sym (rows_read n l ls read)) (read, rows_filled (n + 1) ls))
    (cases_Bool (is_blank_line l))

-- the text of the last of these lines, or this text if there is none
abbrev pub last_text : List ℕ → List Row → List ℕ
last_text text [] = text
last_text text (row ∷ rows) = last_text row.text rows

last_filled : (text : List ℕ) (rows after : List Row) → is_blank_line text ≡ false → AreFilled (rows ++ after) → is_blank_line (last_text text rows) ≡ false
last_filled text [] after e h = e
last_filled text (row ∷ rows) after e h = last_filled row.text rows after h.0 h.1

pub above_here : (n : ℕ) (before : List Row) (row : Row) (after : List Row) → LinesAbove n (before ++ row ∷ after) → n < row.line
above_here n [] row after l = l.0
above_here n (r ∷ before) row after l = omega (arith, l.0, above_here r.line before row after l.1)

pub numbers_show_the_word : NumbersShowTheWord
numbers_show_the_word fields limits words =
    (λ e. found BadNumber fields limits 0 words (no_number limits 0 words e), λ e. found Range fields limits 0 words (beyond limits 0 words e))

module _ (scale : Scale) where
  -- if another line comes before, the numbers are those of a task
  after_line : (kind : ReadFaultKind) (words : List (List ℕ)) (text : List ℕ)
      → is_blank_line text ≡ false → row_evidence scale kind words text ≡ numbers_evidence kind task_fields (task_limits scale) words
  after_line kind words [] e = absurd (false≢true (sym e))
  after_line kind words (b ∷ text) e = refl

  -- the line with a number, and the line before it, are found by the number
  spot_is : (n m : ℕ) (text : List ℕ) (before : List Row) (row : Row) (after : List Row) → LinesAbove m (before ++ row ∷ after) → row.line ≡ n
      → line_and_previous n text (before ++ row ∷ after) ≡ (last_text text before, row.text)
  spot_is n m text [] row after l at = ap (λ b. cond b (text, row.text) (line_and_previous n row.text after)) (eq-eqb row.line n at)
  spot_is n m text (r ∷ before) row after l at =
      let other : (r.line == n) ≡ false = false_from_ne_true (r.line == n) (λ e. omega (arith, eqb-true r.line n e, at, above_here r.line before row after l.1)) in
      ap (λ b. cond b (text, r.text) (line_and_previous n r.text (before ++ row ∷ after))) other ∙ spot_is n r.line r.text before row after l.1 at

  -- the first word at fault, if a line has one
  module _ (text : List ℕ) (before : List Row) (row : Row) (after : List Row) (splits : rows_of text ≡ before ++ row ∷ after) where
    spot : line_and_previous row.line [] (rows_of text) ≡ (last_text [] before, row.text)
    spot =
        let P : List Row → Type 0 = LinesAbove 0 in
        ap (line_and_previous row.line []) splits ∙ spot_is row.line 0 [] before row after (subst P splits (rows_above 0 (lines_of text))) refl

    evidence_is : (kind : ReadFaultKind)
        → let s = line_and_previous row.line [] (rows_of text) in line_evidence scale (rows_of text) s.0 s.1 kind ≡ line_evidence scale (rows_of text) (last_text [] before) row.text kind
    evidence_is kind = ap (λ (s : List ℕ × List ℕ). line_evidence scale (rows_of text) s.0 s.1 kind) spot

    filled : AreFilled (before ++ row ∷ after)
    filled = let P : List Row → Type 0 = AreFilled in subst P splits (rows_filled 1 (lines_of text))

  -- the evidence for a task's line is that for its numbers
  task_numbers : (kind : ReadFaultKind) (header : Row) (before : List Row) (row : Row) (after : List Row) → AreFilled (header ∷ before ++ row ∷ after)
      → numbers_evidence kind task_fields (task_limits scale) (words_of row.text) ≡ row_evidence scale kind (words_of row.text) (last_text header.text before)
  task_numbers kind header before row after h =
      sym (after_line kind (words_of row.text) (last_text header.text before) (last_filled header.text before (row ∷ after) h.0 h.1))

  shown : (rows : List Row) (before : List Row) (row : Row) (after : List Row) (kind : ReadFaultKind)
      → AreFilled (before ++ row ∷ after) → IsWordFault kind → row_fault scale before row kind ≡ true
      → IsFirstWord kind (fields_after before) (limits_after scale before) 0 (words_of row.text) (line_evidence scale rows (last_text [] before) row.text kind)
  shown rows [] row after BadNumber h of has = (numbers_show_the_word header_fields header_limits (words_of row.text)).0 has
  shown rows [] row after Range h of has = (numbers_show_the_word header_fields header_limits (words_of row.text)).1 has
  shown rows (header ∷ before) row after BadNumber h of has =
      let P : Evidence → Type 0 = IsFirstWord BadNumber task_fields (task_limits scale) 0 (words_of row.text) in
      subst P (task_numbers BadNumber header before row after h) ((numbers_show_the_word task_fields (task_limits scale) (words_of row.text)).0 has)
  shown rows (header ∷ before) row after Range h of has =
      let P : Evidence → Type 0 = IsFirstWord Range task_fields (task_limits scale) 0 (words_of row.text) in
      subst P (task_numbers Range header before row after h) ((numbers_show_the_word task_fields (task_limits scale) (words_of row.text)).1 has)
  shown rows before row after kind h of has = absurd of

  of_fault : (text : List ℕ) (line : ℕ) (kind : ReadFaultKind) (class : Class)
      → LilimFault scale text class line kind → IsWordFault kind → ShowsWord scale text (record { line = line; kind = kind })
  of_fault text line kind OfLine f of =
      let rows = rows_of text in
      let P : Evidence → Type 0 = IsFirstWord kind (fields_after f.0) (limits_after scale f.0) 0 (words_of f.1.text) in
      let is = sym (evidence_is text f.0 f.1 f.2 f.3 kind) ∙ ap (λ n. line_evidence scale rows (line_and_previous n [] rows).0 (line_and_previous n [] rows).1 kind) f.4 in
      (f.0, f.1, f.2, f.3, f.4, subst P is (shown rows f.0 f.1 f.2 kind (filled text f.0 f.1 f.2 f.3) of f.5))
  of_fault text line BadNumber OfText f of = absurd f
  of_fault text line Range OfText f of = absurd f
  of_fault text line kind OfText f of = absurd of

pub evidence_shows_the_word : EvidenceShowsTheWord
evidence_shows_the_word scale text fault h of = of_fault scale text fault.line fault.kind h.0 h.1 of

-- In Solomon's format too, the evidence for a bad number is the first bad number in its line.
use Rattle.std.proofs.Common.{◌≡◌, ℕ, ◌<◌, true, false, cond, List, [], ◌∷◌, ◌++◌, refl, sym, ap, subst, ◌∙◌, arith, ℤ}
use Rattle.std.specs.Prelude.{◌==◌}
use Rattle.std.proofs.lemmas.Bool.{eq-eqb, false_from_ne_true, eqb-true, false≢true}
use Rattle.text_lines.specs.Lines.{lines_of}
use Rattle.text_lines.specs.Words.{words_of}
use Rattle.instance_read.specs.EvidenceLaws.{IsFirstWord, IsWordFault, ShowsDueWord, SolomonEvidenceShowsTheWord, due_after, fields_due, limits_due}
use Rattle.instance_read.specs.Faults.{Class, OfLine, OfText}
use Rattle.instance_read.specs.Lilim.{header_limits}
use Rattle.instance_read.specs.Rows.{Row, rows_of}
use Rattle.instance_read.specs.Solomon.{SolomonFault, customer_limits, heading, line_fault}
use Rattle.instance_read.specs.SolomonEvidence.{customer_fields, due_evidence, due_line_from, fleet_fields, line_after, solomon_line_evidence}
use Rattle.instance_read.specs.TaskFaults.{LinesAbove}
use Rattle.instance_read.specs.WordEvidence.{numbers_evidence}
use Rattle.instance_read.specs.declared.scales.Scale.{Scale}
use Rattle.instance_read.specs.declared.evidence.Evidence.{Evidence}
use Rattle.instance_read.specs.declared.evidence.SolomonLine.{SolomonLine}
use Rattle.instance_read.specs.declared.evidence.SolomonLine.TheVariants.{Customer, Depot, Name}
use Rattle.instance_read.specs.declared.faults.ReadFaultKind.{ReadFaultKind}
use Rattle.instance_read.specs.declared.faults.ReadFaultKind.TheVariants.{BadNumber, Range}
use Rattle.instance_read.proofs.EvidenceLemmas.{above_here, last_text, numbers_show_the_word}
use Rattle.instance_read.proofs.TaskFaultLemmas.{rows_above}

-- the line with a number, what is due there, and the line before it, are found by the number
spot_is : (n m : ℕ) (due : SolomonLine) (text : List ℕ) (before : List Row) (row : Row) (after : List Row) → LinesAbove m (before ++ row ∷ after) → row.line ≡ n
    → due_line_from n due text (before ++ row ∷ after) ≡ (due_after due before, last_text text before, row.text)
spot_is n m due text [] row after l at = ap (λ b. cond b (due, text, row.text) (due_line_from n (line_after due) row.text after)) (eq-eqb row.line n at)
spot_is n m due text (r ∷ before) row after l at =
    let other : (r.line == n) ≡ false = false_from_ne_true (r.line == n) (λ e. omega (arith, eqb-true r.line n e, at, above_here r.line before row after l.1)) in
    ap (λ b. cond b (due, text, r.text) (due_line_from n (line_after due) r.text (before ++ row ∷ after))) other
    ∙ spot_is n r.line (line_after due) r.text before row after l.1 at

module _ (scale : Scale) where
  -- the evidence in the line that is found
  abbrev evidence_at : ReadFaultKind → SolomonLine × List ℕ × List ℕ → Evidence
  evidence_at kind spot = solomon_line_evidence scale spot.0 spot.1 spot.2 kind

  module _ (text : List ℕ) (before : List Row) (row : Row) (after : List Row) (splits : rows_of text ≡ before ++ row ∷ after) where
    spot : due_line_from row.line Name [] (rows_of text) ≡ (due_after Name before, last_text [] before, row.text)
    spot =
        let P : List Row → Type 0 = LinesAbove 0 in
        ap (due_line_from row.line Name []) splits ∙ spot_is row.line 0 Name [] before row after (subst P splits (rows_above 0 (lines_of text))) refl

    evidence_is : (kind : ReadFaultKind)
        → evidence_at kind (due_line_from row.line Name [] (rows_of text)) ≡ solomon_line_evidence scale (due_after Name before) (last_text [] before) row.text kind
    evidence_is kind = ap (evidence_at kind) spot

  -- after the lines of the heading, each line is a customer's
  abbrev IsCustomerLine : SolomonLine → Type 0
  IsCustomerLine Depot = Unit {0}
  IsCustomerLine Customer = Unit {0}
  IsCustomerLine _ = ⊥

  stays_customer : (rows : List Row) → IsCustomerLine (due_after Customer rows)
  stays_customer [] = tt
  stays_customer (row ∷ rows) = stays_customer rows

  stays : (rows : List Row) → IsCustomerLine (due_after Depot rows)
  stays [] = tt
  stays (row ∷ rows) = stays_customer rows

  customer_shown : (kind : ReadFaultKind) (words : List (List ℕ)) (due : SolomonLine) → IsCustomerLine due
      → IsFirstWord kind customer_fields (customer_limits scale) 0 words (numbers_evidence kind customer_fields (customer_limits scale) words)
      → IsFirstWord kind (fields_due due) (limits_due scale due) 0 words (due_evidence scale kind words due)
  customer_shown kind words Depot is found = found
  customer_shown kind words Customer is found = found
  customer_shown kind words due is found = absurd is

  -- what the law says about a line after these lines
  abbrev IsShown : List ℕ → List Row → Row → ReadFaultKind → Type 0
  IsShown text before row kind =
      let due = due_after Name before in
      IsFirstWord kind (fields_due due) (limits_due scale due) 0 (words_of row.text) (solomon_line_evidence scale due text row.text kind)

  no_number_shown : (text : List ℕ) (before : List Row) (row : Row) → line_fault scale heading before row BadNumber ≡ true → IsShown text before row BadNumber
  no_number_shown text [] row has = absurd (false≢true has)
  no_number_shown text (a ∷ []) row has = absurd (false≢true has)
  no_number_shown text (a ∷ b ∷ []) row has = absurd (false≢true has)
  no_number_shown text (a ∷ b ∷ c ∷ []) row has = (numbers_show_the_word fleet_fields header_limits (words_of row.text)).0 has
  no_number_shown text (a ∷ b ∷ c ∷ d ∷ []) row has = absurd (false≢true has)
  no_number_shown text (a ∷ b ∷ c ∷ d ∷ e ∷ []) row has = absurd (false≢true has)
  no_number_shown text (a ∷ b ∷ c ∷ d ∷ e ∷ f ∷ before) row has =
      customer_shown BadNumber (words_of row.text) (due_after Depot before) (stays before) ((numbers_show_the_word customer_fields (customer_limits scale) (words_of row.text)).0 has)

  beyond_shown : (text : List ℕ) (before : List Row) (row : Row) → line_fault scale heading before row Range ≡ true → IsShown text before row Range
  beyond_shown text [] row has = absurd (false≢true has)
  beyond_shown text (a ∷ []) row has = absurd (false≢true has)
  beyond_shown text (a ∷ b ∷ []) row has = absurd (false≢true has)
  beyond_shown text (a ∷ b ∷ c ∷ []) row has = (numbers_show_the_word fleet_fields header_limits (words_of row.text)).1 has
  beyond_shown text (a ∷ b ∷ c ∷ d ∷ []) row has = absurd (false≢true has)
  beyond_shown text (a ∷ b ∷ c ∷ d ∷ e ∷ []) row has = absurd (false≢true has)
  beyond_shown text (a ∷ b ∷ c ∷ d ∷ e ∷ f ∷ before) row has =
      customer_shown Range (words_of row.text) (due_after Depot before) (stays before) ((numbers_show_the_word customer_fields (customer_limits scale) (words_of row.text)).1 has)

  shown : (text : List ℕ) (before : List Row) (row : Row) (kind : ReadFaultKind) → IsWordFault kind → line_fault scale heading before row kind ≡ true → IsShown text before row kind
  shown text before row BadNumber of has = no_number_shown text before row has
  shown text before row Range of has = beyond_shown text before row has
  shown text before row kind of has = absurd of

  of_fault : (text : List ℕ) (line : ℕ) (kind : ReadFaultKind) (class : Class)
      → SolomonFault scale text class line kind → IsWordFault kind → ShowsDueWord scale text (record { line = line; kind = kind })
  of_fault text line kind OfLine f of =
      let due = due_after Name f.0 in
      let P : Evidence → Type 0 = IsFirstWord kind (fields_due due) (limits_due scale due) 0 (words_of f.1.text) in
      let is = sym (evidence_is text f.0 f.1 f.2 f.3 kind) ∙ ap (λ n. evidence_at kind (due_line_from n Name [] (rows_of text))) f.4 in
      (f.0, f.1, f.2, f.3, f.4, subst P is (shown (last_text [] f.0) f.0 f.1 kind of f.5))
  of_fault text line BadNumber OfText f of = absurd f
  of_fault text line Range OfText f of = absurd f
  of_fault text line kind OfText f of = absurd of

pub solomon_evidence_shows_the_word : SolomonEvidenceShowsTheWord
solomon_evidence_shows_the_word scale text fault h of = of_fault scale text fault.line fault.kind h.0 h.1 of

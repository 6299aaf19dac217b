-- The first fault of a text in Solomon's format, from the faults of its lines.
use Rattle.std.proofs.Common.{◌≡◌, ℕ, ◌<◌, true, ◌⊎◌, inl, inr, ⊎_elim, List, [], ◌∷◌, ◌++◌, length, None, refl, sym, ap, subst, ◌∙◌, arith, length-append}
use Rattle.std.proofs.lemmas.Bool.{false≢true}
use Rattle.text_lines.specs.Words.{words_of}
use Rattle.instance_read.specs.declared.faults.ReadFault.{ReadFault}
use Rattle.instance_read.specs.declared.faults.ReadFaultKind.{ReadFaultKind}
use Rattle.instance_read.specs.declared.faults.ReadFaultKind.TheVariants.{Truncated}
use Rattle.instance_read.specs.declared.scales.Scale.{Scale}
use Rattle.instance_read.specs.Faults.{Class, OfLine, OfText, HasNoFault, IsFirstFault, IsNoLater}
use Rattle.instance_read.specs.Rows.{Row}
use Rattle.instance_read.specs.Solomon.{LineTest, LinesFault, customer_limits, line_fault}
use Rattle.instance_read.specs.TaskFaults.{HasNoKind, HasNoStopFault, IsFirstKind, IsFirstStopFault, LinesAbove, StopLineFault}
use Rattle.instance_read.proofs.LilimLemmas.{cons_head, cons_tail, fault_split, split_fault}

-- a line is after line n if all lines are
line_after : (n : ℕ) (rows before : List Row) (row : Row) (after : List Row) → LinesAbove n rows → rows ≡ before ++ row ∷ after → n < row.line
line_after n [] before row after above e = absurd (omega (arith, ap length e, length-append before (row ∷ after)))
line_after n (r ∷ rows) [] row after above e = omega (arith, above.0, ap (λ (q : Row). q.line) (cons_head r row rows after e))
line_after n (r ∷ rows) (b ∷ before) row after above e = omega (arith, above.0, line_after r.line rows before row after above.1 (cons_tail r b rows (before ++ row ∷ after) e))

module _ (scale : Scale) (end : ℕ) where
  -- lines without a fault, of which none has the depot
  truncated_no_later : (due : List LineTest) (rows : List Row) (line : ℕ) (kind : ReadFaultKind) → LinesFault scale end due rows OfText line kind → IsNoLater OfText end Truncated OfText line kind
  truncated_no_later due rows line Truncated f = inr (sym f.1, omega arith)
  truncated_no_later due rows line _ f = absurd f

  -- no line is left
  none_cases : (due : List LineTest) (class : Class) (line : ℕ) (kind : ReadFaultKind) → LinesFault scale end due [] class line kind → IsNoLater OfText end Truncated class line kind
  none_cases due OfLine line kind f = absurd (omega (arith, ap length f.3, length-append f.0 (f.1 ∷ f.2)))
  none_cases due OfText line kind f = truncated_no_later due [] line kind f

  pub cut_first : (due : List LineTest) → IsFirstFault (LinesFault scale end due []) (record { line = end; kind = Truncated })
  cut_first due = (OfText, (omega arith, refl), none_cases due)

  -- facts about the first of the lines before the depot
  module _ (test : LineTest) (due : List LineTest) (row : Row) (rows : List Row) where
    abbrev Here : Class → ℕ → ReadFaultKind → Type 0
    Here OfLine line kind = (row.line ≡ line) × (test (words_of row.text) kind ≡ true)
    Here OfText line kind = ⊥

    line_cases : (before : List Row) (r : Row) (after : List Row) (line : ℕ) (kind : ReadFaultKind) → row ∷ rows ≡ before ++ r ∷ after → r.line ≡ line
        → line_fault scale (test ∷ due) before r kind ≡ true → Here OfLine line kind ⊎ LinesFault scale end due rows OfLine line kind
    line_cases [] r after line kind e at fault =
        let P : Row → Type 0 = λ q. (q.line ≡ line) × (test (words_of q.text) kind ≡ true) in
        inl (subst P (sym (cons_head row r rows after e)) (at, fault))
    line_cases (b ∷ before) r after line kind e at fault = inr (before, r, after, cons_tail row b rows (before ++ r ∷ after) e, at, fault)

    text_cases : (line : ℕ) (kind : ReadFaultKind) → LinesFault scale end (test ∷ due) (row ∷ rows) OfText line kind → LinesFault scale end due rows OfText line kind
    text_cases line Truncated f = (omega (arith, f.0), f.1)
    text_cases line _ f = absurd f

    due_cases : (class : Class) (line : ℕ) (kind : ReadFaultKind) → LinesFault scale end (test ∷ due) (row ∷ rows) class line kind
        → Here class line kind ⊎ LinesFault scale end due rows class line kind
    due_cases OfLine line kind f = line_cases f.0 f.1 f.2 line kind f.3 f.4 f.5
    due_cases OfText line kind f = inr (text_cases line kind f)

    text_more : (line : ℕ) (kind : ReadFaultKind) → LinesFault scale end due rows OfText line kind → LinesFault scale end (test ∷ due) (row ∷ rows) OfText line kind
    text_more line Truncated f = (omega (arith, f.0), f.1)
    text_more line _ f = absurd f

    due_more : (class : Class) (line : ℕ) (kind : ReadFaultKind) → LinesFault scale end due rows class line kind → LinesFault scale end (test ∷ due) (row ∷ rows) class line kind
    due_more OfLine line kind f = (row ∷ f.0, f.1, f.2, ap (λ xs. row ∷ xs) f.3, f.4, f.5)
    due_more OfText line kind f = text_more line kind f

    module _ (none : HasNoKind (test (words_of row.text))) where
      not_here : (class : Class) (line : ℕ) (kind : ReadFaultKind) → Here class line kind → ⊥
      not_here OfLine line kind here = false≢true (sym (none kind) ∙ here.1)
      not_here OfText line kind here = here

      -- what is true for the lines after this one is true with this one, too
      pub due_clean : HasNoFault (LinesFault scale end due rows) → HasNoFault (LinesFault scale end (test ∷ due) (row ∷ rows))
      due_clean clean class line kind f = ⊎_elim (λ here. not_here class line kind here) (λ later. clean class line kind later) (due_cases class line kind f)

      pub due_first : (f : ReadFault) → IsFirstFault (LinesFault scale end due rows) f → IsFirstFault (LinesFault scale end (test ∷ due) (row ∷ rows)) f
      due_first f first = (
        first.0,
        due_more first.0 f.line f.kind first.1,
        λ class line kind g. ⊎_elim (λ here. absurd (not_here class line kind here)) (λ later. first.2 class line kind later) (due_cases class line kind g),
      )

    -- the first fault of this line is that of all lines
    stops_cases : (found : ReadFaultKind) → LinesAbove 0 (row ∷ rows) → IsFirstKind (test (words_of row.text)) found → (class : Class) (line : ℕ) (kind : ReadFaultKind)
        → Here class line kind ⊎ LinesFault scale end due rows class line kind → IsNoLater OfLine row.line found class line kind
    stops_cases found above first OfLine line kind (inl here) = inr (here.0, first.1 kind here.1)
    stops_cases found above first OfLine line kind (inr later) = inl (omega (arith, later.4, line_after row.line rows later.0 later.1 later.2 above.1 later.3))
    stops_cases found above first OfText line kind f = tt

    pub due_stops : LinesAbove 0 (row ∷ rows) → (found : ReadFaultKind) → IsFirstKind (test (words_of row.text)) found
        → IsFirstFault (LinesFault scale end (test ∷ due) (row ∷ rows)) (record { line = row.line; kind = found })
    due_stops above found first =
        (OfLine, ([], row, rows, refl, refl, first.0), λ class line kind f. stops_cases found above first class line kind (due_cases class line kind f))

  -- facts about the lines from the depot on
  module _ (rows : List Row) where
    customer_cases : (line : ℕ) (kind : ReadFaultKind) → LinesFault scale end [] rows OfLine line kind → StopLineFault (customer_limits scale) None rows line kind
    customer_cases line kind f = split_fault (customer_limits scale) None rows f.0 f.1 f.2 line kind f.3 f.4 f.5

    first_cases : (f : ReadFault) → IsFirstStopFault (customer_limits scale) None rows f → (class : Class) (line : ℕ) (kind : ReadFaultKind)
        → LinesFault scale end [] rows class line kind → IsNoLater OfLine f.line f.kind class line kind
    first_cases f first OfLine line kind g = first.first line kind (customer_cases line kind g)
    first_cases f first OfText line kind g = tt

    pub customers_first : (f : ReadFault) → IsFirstStopFault (customer_limits scale) None rows f → IsFirstFault (LinesFault scale end [] rows) f
    customers_first f first = (OfLine, fault_split (customer_limits scale) None rows f.line f.kind first.here, first_cases f first)

  -- there is a depot, and no line from there on has a fault
  no_cut : (depot : Row) (rows : List Row) (line : ℕ) (kind : ReadFaultKind) → LinesFault scale end [] (depot ∷ rows) OfText line kind → ⊥
  no_cut depot rows line Truncated f = omega (arith, f.0)
  no_cut depot rows line _ f = f

  pub clean_lines : (depot : Row) (rows : List Row) → HasNoStopFault (customer_limits scale) None (depot ∷ rows) → HasNoFault (LinesFault scale end [] (depot ∷ rows))
  clean_lines depot rows clean OfLine line kind f = clean line kind (customer_cases (depot ∷ rows) line kind f)
  clean_lines depot rows clean OfText line kind f = no_cut depot rows line kind f

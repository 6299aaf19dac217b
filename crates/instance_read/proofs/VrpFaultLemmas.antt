-- The fault that is reported for a `.vrp` text.
use Rattle.std.proofs.Common.{◌≡◌, ℕ, ◌+◌, ◌<◌, true, false, ◌⊎◌, ⊎_elim, inl, inr, List, [], ◌∷◌, ◌++◌, length, map, Option, None, refl, sym, ap, subst, ◌∙◌, arith, append_assoc}
use Rattle.std.proofs.lemmas.Bool.{false≢true}
use Rattle.text_lines.specs.Lines.{lines_of}
use Rattle.instance_read.specs.declared.faults.ReadFault.{ReadFault}
use Rattle.instance_read.specs.declared.faults.ReadFaultKind.{ReadFaultKind}
use Rattle.instance_read.specs.declared.faults.ReadFaultKind.TheVariants.{MissingKey, Truncated}
use Rattle.instance_read.specs.declared.scales.Scale.{Scale}
use Rattle.instance_read.specs.declared.vrp_lines.Section.{Section}
use Rattle.instance_read.specs.declared.vrp_lines.Section.TheVariants.{Outside}
use Rattle.instance_read.specs.Faults.{Class, OfLine, OfText, HasNoFault, IsFirstFault, IsNoLater, IsNoLaterPlace, ReportsFirstFault, rank}
use Rattle.instance_read.specs.Rows.{Row, rows_of}
use Rattle.instance_read.specs.Vrp.{VrpFault, end_line, is_inside, lacks_key, place_fault}
use Rattle.instance_read.specs.VrpLines.{Placed, end_place, nodes_after, place_after, placed_from, placed_of}
use Rattle.instance_read.specs.DraftLines.{HasNoLineFault, IsFirstFaultyLine, ReportsLine}
use Rattle.instance_read.specs.TaskFaults.{LinesAbove}
use Rattle.instance_read.proofs.ReadingLemmas.{compare_splits, placed_none, placed_step}
use Rattle.instance_read.proofs.TaskFaultLemmas.{rows_above}

abbrev rows_placed : List Placed → List Row
rows_placed ps = map (λ p. p.row) ps

placed_rows-are : (nodes : Option ℕ) (place : Section) (rows : List Row) → rows_placed (placed_from nodes place rows) ≡ rows
placed_rows-are nodes place [] = ap rows_placed (placed_none nodes place)
placed_rows-are nodes place (row ∷ rows) =
    ap rows_placed (placed_step nodes place row rows) ∙ ap (λ l. row ∷ l) (placed_rows-are (nodes_after nodes row place) (place_after nodes row place) rows)

-- lines are in ascending order of their numbers
above_later : (n : ℕ) (ps : List Placed) (q : Placed) (after : List Placed) → LinesAbove n (rows_placed (ps ++ q ∷ after)) → n < q.row.line
above_later n [] q after h = h.0
above_later n (p ∷ ps) q after h = omega (arith, h.0, above_later p.row.line ps q after h.1)

line_before : (n : ℕ) (ps : List Placed) (p : Placed) (between : List Placed) (q : Placed) (after : List Placed)
    → LinesAbove n (rows_placed (ps ++ p ∷ (between ++ q ∷ after))) → p.row.line < q.row.line
line_before n [] p between q after h = above_later p.row.line between q after h.1
line_before n (r ∷ ps) p between q after h = line_before r.row.line ps p between q after h.1

module _ (scale : Scale) (text : List ℕ) where
  above : LinesAbove 0 (rows_placed (placed_of text))
  above = let P : List Row → Type 0 = LinesAbove 0 in subst P (sym (placed_rows-are None Outside (rows_of text))) (rows_above 0 (lines_of text))

  -- the first line that has a fault has the first fault
  module _ (f : ReadFault) (h : IsFirstFaultyLine scale (placed_of text) f) where
    here_or_later : (line : ℕ) (kind : ReadFaultKind) (b : List Placed) (q : Placed) (a : List Placed) → placed_of text ≡ b ++ q ∷ a → q.row.line ≡ line → place_fault scale b q.row q.place kind ≡ true
        → ((h.before ≡ b) × (h.here ≡ q)) ⊎ (((m : List Placed) × (b ≡ h.before ++ h.here ∷ m)) ⊎ ((m : List Placed) × (h.before ≡ b ++ q ∷ m))) → IsNoLaterPlace f.line f.kind line kind
    here_or_later line kind b q a split at fault (inl same) =
        let P : List Placed → Type 0 = λ l. place_fault scale l q.row q.place kind ≡ true in
        let Q : Placed → Type 0 = λ p. place_fault scale h.before p.row p.place kind ≡ true in
        inr (h.line ∙ ap (λ (p : Placed). p.row.line) same.1 ∙ at, h.kind.1 kind (subst Q (sym same.1) (subst P (sym same.0) fault)))
    here_or_later line kind b q a split at fault (inr (inl later)) =
        let P : List Placed → Type 0 = λ ps. LinesAbove 0 (rows_placed ps) in
        let is = split ∙ ap (λ l. l ++ q ∷ a) later.1 ∙ append_assoc h.before (h.here ∷ later.0) (q ∷ a) in
        inl (omega (arith, h.line, at, line_before 0 h.before h.here later.0 q a (subst P is above)))
    here_or_later line kind b q a split at fault (inr (inr earlier)) = absurd (false≢true (sym (h.clean b q earlier.0 earlier.1 kind) ∙ fault))

    no_later : (class : Class) (line : ℕ) (kind : ReadFaultKind) → VrpFault scale text class line kind → IsNoLater OfLine f.line f.kind class line kind
    no_later OfLine line kind g = here_or_later line kind g.0 g.1 g.2 g.3 g.4 g.5 (compare_splits h.before h.here h.after g.0 g.1 g.2 (sym h.splits ∙ g.3))
    no_later OfText line kind g = tt

    pub first_line_fault : IsFirstFault (VrpFault scale text) f
    first_line_fault = (OfLine, (h.before, h.here, h.after, h.splits, sym h.line, h.kind.0), no_later)

  pub tells_line : (f : ReadFault) → ReportsLine scale (placed_of text) f → ReportsFirstFault (VrpFault scale text) f
  tells_line f (inl memory) = inl memory
  tells_line f (inr first) = inr (first_line_fault f first)

  -- facts about a text in which no line has a fault
  module _ (clean : HasNoLineFault scale (placed_of text)) where
    no_line : (line : ℕ) (kind : ReadFaultKind) → VrpFault scale text OfLine line kind → ⊥
    no_line line kind g = false≢true (sym (clean g.0 g.1 g.2 g.3 kind) ∙ g.5)

    -- the whole text has two possible faults: it ends inside a section, or it lacks a key
    text_cases : (line : ℕ) (kind : ReadFaultKind) → VrpFault scale text OfText line kind
        → ((kind ≡ Truncated) × (is_inside (end_place text) ≡ true) × (line ≡ length (lines_of text) + 1))
        ⊎ ((kind ≡ MissingKey) × (is_inside (end_place text) ≡ false) × (lacks_key (placed_of text) ≡ true) × (line ≡ end_line text))
    text_cases line Truncated g = inl (refl, g.0, g.1)
    text_cases line MissingKey g = inr (refl, g.0, g.1, g.2)
    text_cases line _ g = absurd g

    -- the fault of a text that ends inside a section
    module _ (inside : is_inside (end_place text) ≡ true) where
      cut_fault : (line : ℕ) (kind : ReadFaultKind) → VrpFault scale text OfText line kind → IsNoLaterPlace (length (lines_of text) + 1) Truncated line kind
      cut_fault line kind g =
          ⊎_elim
          (λ cut. inr (sym cut.2, omega (arith, ap rank cut.0)))
          (λ lacks. absurd (false≢true (sym lacks.1 ∙ inside)))
          (text_cases line kind g)

      cut_no_later : (class : Class) (line : ℕ) (kind : ReadFaultKind) → VrpFault scale text class line kind → IsNoLater OfText (length (lines_of text) + 1) Truncated class line kind
      cut_no_later OfLine line kind g = no_line line kind g
      cut_no_later OfText line kind g = cut_fault line kind g

      pub truncated_first : IsFirstFault (VrpFault scale text) (record { line = length (lines_of text) + 1; kind = Truncated })
      truncated_first = (OfText, (inside, refl), cut_no_later)

    -- the fault of a text that ends outside the sections
    module _ (outside : is_inside (end_place text) ≡ false) where
      missing : (line : ℕ) (kind : ReadFaultKind) → VrpFault scale text OfText line kind → (kind ≡ MissingKey) × (lacks_key (placed_of text) ≡ true) × (line ≡ end_line text)
      missing line kind g =
          ⊎_elim
          (λ cut. absurd (false≢true (sym outside ∙ cut.1)))
          (λ lacks. (lacks.0, lacks.2, lacks.3))
          (text_cases line kind g)

      missing_no_later : (class : Class) (line : ℕ) (kind : ReadFaultKind) → VrpFault scale text class line kind → IsNoLater OfText (end_line text) MissingKey class line kind
      missing_no_later OfLine line kind g = no_line line kind g
      missing_no_later OfText line kind g = let t = missing line kind g in inr (sym t.2, omega (arith, ap rank t.0))

      pub missing_first : lacks_key (placed_of text) ≡ true → IsFirstFault (VrpFault scale text) (record { line = end_line text; kind = MissingKey })
      missing_first lacks = (OfText, (outside, lacks, refl), missing_no_later)

      none_of_class : lacks_key (placed_of text) ≡ false → (class : Class) (line : ℕ) (kind : ReadFaultKind) → VrpFault scale text class line kind → ⊥
      none_of_class has OfLine line kind g = no_line line kind g
      none_of_class has OfText line kind g = let t = missing line kind g in false≢true (sym has ∙ t.1)

      pub has_no_fault : lacks_key (placed_of text) ≡ false → HasNoFault (VrpFault scale text)
      has_no_fault has = none_of_class has

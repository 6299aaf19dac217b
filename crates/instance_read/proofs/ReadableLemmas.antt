-- Each text spells a problem or has a first fault, and has no two readings. The faults are searched for in
-- their order.
use Rattle.std.proofs.Common.{◌≡◌, ℕ, ◌+◌, ◌≤◌, Bool, true, false, ◌⊎◌, inl, inr, ⊎_elim, List, [], ◌∷◌, ◌++◌, length, map, Option, Some, None, refl, sym, ap, ap₂}
use Rattle.std.proofs.Common.{subst, ◌∙◌, arith, append_assoc, append-nil, length-append, ℤ}
use Rattle.std.specs.Prelude.{find, slice_index_or}
use Rattle.std.specs.List.{AllByRecursion}
use Rattle.std.proofs.lemmas.Bool.{cases_lt, false≢true}
use Rattle.text_lines.specs.Lines.{lines_of}
use Rattle.text_lines.specs.Words.{words_of}
use Rattle.plan_types.specs.Instance.{Instance}
use Rattle.instance_read.specs.declared.faults.ReadFault.{ReadFault}
use Rattle.instance_read.specs.declared.faults.ReadFaultKind.{ReadFaultKind}
use Rattle.instance_read.specs.declared.faults.ReadFaultKind.TheVariants.{BadNumber, Range, FieldCount, TaskOrder, PairMismatch, EmptyWindow, TooManyStops}
use Rattle.instance_read.specs.declared.faults.ReadFaultKind.TheVariants.{MissingKey, Unsupported, DepotNotFirst, NodeRepeated, Truncated, OutOfMemory}
use Rattle.instance_read.specs.declared.formats.Layout.{Layout}
use Rattle.instance_read.specs.declared.formats.Layout.TheVariants.{LiLim, Solomon, Vrp}
use Rattle.instance_read.specs.declared.scales.Scale.{Scale}
use Rattle.instance_read.specs.declared.tasks.Task.{Task}
use Rattle.instance_read.specs.Faults.{Class, HasNoFault, IsFirstFault, IsNoLater, IsNoLaterPlace, OfLine, OfText, rank}
use Rattle.instance_read.specs.Lilim.{LilimFault, SpellsLilim, header_fault, problem_of, stop_fault, task_limits}
use Rattle.instance_read.specs.Pairs.{is_mismatched, task_of}
use Rattle.instance_read.specs.Readable.{IsUniqueReading, SpellsOrFails, TextsHaveAReading, ReadingsAreUnique}
use Rattle.instance_read.specs.Readings.{LayoutFault, SpellsLayout}
use Rattle.instance_read.specs.Rows.{Row, rows_of}
use Rattle.instance_read.specs.Solomon.{IsProblemOf, LinesFault, LineTest, SolomonFault, SpellsSolomon, customer_limits, heading}
use Rattle.instance_read.specs.Vrp.{SpellsVrp, VrpFault, is_inside, lacks_key, place_fault, vrp_problem}
use Rattle.instance_read.specs.VrpLines.{Placed, end_place, placed_of}
use Rattle.instance_read.specs.DraftLines.{HasNoLineFault, IsFirstFaultyLine}
use Rattle.instance_read.specs.TaskFaults.{HasNoKind, HasNoStopFault, HasNoTaskFault, IsFirstKind, IsFirstStopFault, LinesAbove}
use Rattle.instance_read.proofs.LilimLemmas.{cons_head, cons_tail, has_none, header_first, mismatch_first, no_rows_first, no_tasks_first, rest_above, task_first}
use Rattle.instance_read.proofs.PairLemmas.{none_found}
use Rattle.instance_read.proofs.ReadingLemmas.{clean_more}
use Rattle.instance_read.proofs.SolomonLemmas.{clean_lines, customers_first, cut_first, due_clean, due_first, due_stops}
use Rattle.instance_read.proofs.VrpFaultLemmas.{first_line_fault, has_no_fault, missing_first, truncated_first}
use Rattle.instance_read.proofs.TaskFaultLemmas.{above_weaker, here_first, rows_above, step_clean, step_first}

-- the first fault of a line, if it has one
abbrev all_kinds : List ReadFaultKind
all_kinds = FieldCount ∷ BadNumber ∷ TooManyStops ∷ Range ∷ TaskOrder ∷ EmptyWindow ∷ Unsupported ∷ MissingKey ∷ NodeRepeated ∷ DepotNotFirst ∷ PairMismatch ∷ Truncated ∷ OutOfMemory ∷ []

each_kind : (P : ReadFaultKind → Type 0) → AllByRecursion P all_kinds → (k : ReadFaultKind) → P k
each_kind P all FieldCount = all.0
each_kind P all BadNumber = all.1.0
each_kind P all TooManyStops = all.1.1.0
each_kind P all Range = all.1.1.1.0
each_kind P all TaskOrder = all.1.1.1.1.0
each_kind P all EmptyWindow = all.1.1.1.1.1.0
each_kind P all Unsupported = all.1.1.1.1.1.1.0
each_kind P all MissingKey = all.1.1.1.1.1.1.1.0
each_kind P all NodeRepeated = all.1.1.1.1.1.1.1.1.0
each_kind P all DepotNotFirst = all.1.1.1.1.1.1.1.1.1.0
each_kind P all PairMismatch = all.1.1.1.1.1.1.1.1.1.1.0
each_kind P all Truncated = all.1.1.1.1.1.1.1.1.1.1.1.0
each_kind P all OutOfMemory = all.1.1.1.1.1.1.1.1.1.1.1.1.0

all_weaker : {X : Type 0} (P Q : X → Type 0) (xs : List X) → ((x : X) → P x → Q x) → AllByRecursion P xs → AllByRecursion Q xs
all_weaker P Q [] h all = tt
all_weaker P Q (x ∷ xs) h all = (h x all.0, all_weaker P Q xs h all.1)

module _ (fault : ReadFaultKind → Bool) where
  -- the first fault is no later than the fault of this kind, if the line has one
  abbrev IsNoLaterKind : ReadFaultKind → ReadFaultKind → Type 0
  IsNoLaterKind kind k = fault k ≡ true → rank kind ≤ rank k

  abbrev Found : List ReadFaultKind → Type 0
  Found ks = AllByRecursion (λ k. fault k ≡ false) ks ⊎ ((kind : ReadFaultKind) × (fault kind ≡ true) × AllByRecursion (IsNoLaterKind kind) ks)

  found_more : (k : ReadFaultKind) (ks : List ReadFaultKind) (b : Bool) → fault k ≡ b → Found ks → Found (k ∷ ks)
  found_more k ks false e (inl none) = inl (e, none)
  found_more k ks false e (inr (kind, has, first)) = inr (kind, has, ((λ h. absurd (false≢true (sym e ∙ h))), first))
  found_more k ks true e (inl none) =
      inr (k, e, ((λ h. omega arith), all_weaker (λ x. fault x ≡ false) (IsNoLaterKind k) ks (λ x no h. absurd (false≢true (sym no ∙ h))) none))
  found_more k ks true e (inr (kind, has, first)) =
      ⊎_elim
      (λ lesser. inr (k, e, ((λ h. omega arith), all_weaker (IsNoLaterKind kind) (IsNoLaterKind k) ks (λ x no h. omega (arith, lesser, no h)) first)))
      (λ le. inr (kind, has, ((λ h. le), first)))
      (cases_lt (rank k) (rank kind))

  found_in : (ks : List ReadFaultKind) → Found ks
  found_in [] = inl tt
  found_in (k ∷ ks) = found_more k ks (fault k) refl (found_in ks)

  pub first_kind : HasNoKind fault ⊎ ((kind : ReadFaultKind) × IsFirstKind fault kind)
  first_kind =
      ⊎_elim
      (λ none. inl (each_kind (λ k. fault k ≡ false) none))
      (λ some. inr (some.0, (some.1, each_kind (IsNoLaterKind some.0) some.2)))
      (found_in all_kinds)

-- the first fault of lines with stops, if they have one
abbrev StopFound : List (ℤ × ℤ) → Option Task → List Row → Type 0
StopFound limits previous rows = HasNoStopFault limits previous rows ⊎ ((f : ReadFault) × IsFirstStopFault limits previous rows f)

module _ (limits : List (ℤ × ℤ)) (previous : Option Task) (row : Row) (rows : List Row) (above : LinesAbove 0 (row ∷ rows)) where
  stop_later : HasNoKind (stop_fault limits previous (words_of row.text)) → StopFound limits (Some (task_of row)) rows → StopFound limits previous (row ∷ rows)
  stop_later none (inl clean) = inl (step_clean limits previous row rows none clean)
  stop_later none (inr (f, first)) = inr (f, step_first limits previous row rows f none first)

  stop_here : HasNoKind (stop_fault limits previous (words_of row.text)) ⊎ ((kind : ReadFaultKind) × IsFirstKind (stop_fault limits previous (words_of row.text)) kind)
      → StopFound limits (Some (task_of row)) rows → StopFound limits previous (row ∷ rows)
  stop_here (inl none) later = stop_later none later
  stop_here (inr (kind, first)) later = inr (record { line = row.line; kind = kind }, here_first limits previous row rows kind above first)

first_stop_fault : (limits : List (ℤ × ℤ)) (previous : Option Task) (rows : List Row) → LinesAbove 0 rows → StopFound limits previous rows
first_stop_fault limits previous [] above = inl (λ line kind f. f)
first_stop_fault limits previous (row ∷ rows) above =
    stop_here limits previous row rows above (first_kind (stop_fault limits previous (words_of row.text)))
    (first_stop_fault limits (Some (task_of row)) rows (above_weaker 0 row.line rows (omega arith) above.1))

module _ (scale : Scale) where
  -- a Li-Lim text: its header, its tasks, and their pairs
  abbrev LilimRead : List ℕ → Type 0
  LilimRead text = SpellsOrFails (SpellsLilim scale text) (LilimFault scale text)

  module _ (text : List ℕ) (header depot : Row) (customers : List Row) (is : rows_of text ≡ header ∷ depot ∷ customers)
      (sound : HasNoKind (header_fault (words_of header.text))) (clean : HasNoTaskFault scale None (depot ∷ customers)) where
    pairs_read : (found : Option Task) → find (is_mismatched (map task_of customers)) (map task_of customers) ≡ found → LilimRead text
    pairs_read None none =
        let paired = none_found (is_mismatched (map task_of customers)) (map task_of customers) none in
        inl (problem_of scale header depot customers, (has_none scale text header depot customers is sound clean paired, header, depot, customers, is, refl))
    pairs_read (Some t) found = inr (_, mismatch_first scale text header depot customers is sound clean t found)

  module _ (text : List ℕ) (header : Row) (sound : HasNoKind (header_fault (words_of header.text))) where
    tasks_read : (rest : List Row) → rows_of text ≡ header ∷ rest → HasNoTaskFault scale None rest → LilimRead text
    tasks_read [] is clean = inr (_, no_tasks_first scale text header [] is sound refl)
    tasks_read (depot ∷ customers) is clean = pairs_read text header depot customers is sound clean (find (is_mismatched (map task_of customers)) (map task_of customers)) refl

  module _ (text : List ℕ) (header : Row) (rest : List Row) (is : rows_of text ≡ header ∷ rest) where
    rest_read : HasNoKind (header_fault (words_of header.text)) → StopFound (task_limits scale) None rest → LilimRead text
    rest_read sound (inl clean) = tasks_read text header sound rest is clean
    rest_read sound (inr (f, first)) = inr (f, task_first scale text header rest is sound f first)

    header_read : HasNoKind (header_fault (words_of header.text)) ⊎ ((kind : ReadFaultKind) × IsFirstKind (header_fault (words_of header.text)) kind) → LilimRead text
    header_read (inl sound) = rest_read sound (first_stop_fault (task_limits scale) None rest (above_weaker 0 header.line rest (omega arith) (rest_above scale text header rest is)))
    header_read (inr (kind, first)) = inr (_, header_first scale text header rest is kind first)

  rows_read : (text : List ℕ) (rows : List Row) → rows_of text ≡ rows → LilimRead text
  rows_read text [] is = inr (_, no_rows_first scale text is)
  rows_read text (header ∷ rest) is = header_read text header rest is (first_kind (header_fault (words_of header.text)))

  lilim_read : (text : List ℕ) → LilimRead text
  lilim_read text = rows_read text (rows_of text) refl

  -- the first faulty line of a `.vrp` text, if it has one
  abbrev LineFound : List Placed → Type 0
  LineFound ps = HasNoLineFault scale ps ⊎ ((f : ReadFault) × IsFirstFaultyLine scale ps f)

  module _ (before : List Placed) (p : Placed) (ps : List Placed) (clean : HasNoLineFault scale before) where
    line_here : (HasNoKind (place_fault scale before p.row p.place) → LineFound ((before ++ p ∷ []) ++ ps))
        → HasNoKind (place_fault scale before p.row p.place) ⊎ ((kind : ReadFaultKind) × IsFirstKind (place_fault scale before p.row p.place) kind) → LineFound (before ++ p ∷ ps)
    line_here later (inl none) = subst LineFound (append_assoc before (p ∷ []) ps) (later none)
    line_here later (inr (kind, first)) =
        inr (record { line = p.row.line; kind = kind }, record { before = before; here = p; after = ps; splits = refl; line = refl; kind = first; clean = clean })

  first_line : (before ps : List Placed) → HasNoLineFault scale before → LineFound (before ++ ps)
  first_line before [] clean = inl (subst (HasNoLineFault scale) (sym (append-nil before)) clean)
  first_line before (p ∷ ps) clean =
      line_here before p ps clean (λ none. first_line (before ++ p ∷ []) ps (clean_more scale before p clean none)) (first_kind (place_fault scale before p.row p.place))

  no_lines : HasNoLineFault scale []
  no_lines b p a e = absurd (omega (arith, ap length e, length-append b (p ∷ a)))

  -- a `.vrp` text: its lines, its end, and whether it lacks a key
  module _ (text : List ℕ) where
    abbrev VrpRead : Type 0
    VrpRead = SpellsOrFails (SpellsVrp scale text) (VrpFault scale text)

    module _ (clean : HasNoLineFault scale (placed_of text)) where
      keys_read : is_inside (end_place text) ≡ false → (b : Bool) → lacks_key (placed_of text) ≡ b → VrpRead
      keys_read outside true lacks = inr (_, missing_first scale text clean outside lacks)
      keys_read outside false has = inl (vrp_problem scale (placed_of text), (has_no_fault scale text clean outside has, refl))

      end_read : (b : Bool) → is_inside (end_place text) ≡ b → VrpRead
      end_read true inside = inr (_, truncated_first scale text clean inside)
      end_read false outside = keys_read outside (lacks_key (placed_of text)) refl

    lines_read : LineFound (placed_of text) → VrpRead
    lines_read (inl clean) = end_read clean (is_inside (end_place text)) refl
    lines_read (inr (f, first)) = inr (f, first_line_fault scale text f first)

  vrp_read : (text : List ℕ) → VrpRead text
  vrp_read text = lines_read text (first_line [] (placed_of text) no_lines)

  -- a text in Solomon's format: line by line, first those before the depot
  module _ (end : ℕ) where
    abbrev LinesFound : List LineTest → List Row → Type 0
    LinesFound due rows = HasNoFault (LinesFault scale end due rows) ⊎ ((f : ReadFault) × IsFirstFault (LinesFault scale end due rows) f)

    customers_found : (rows : List Row) → StopFound (customer_limits scale) None rows → LinesFound [] rows
    customers_found [] found = inr (_, cut_first scale end [])
    customers_found (row ∷ rows) (inl clean) = inl (clean_lines scale end row rows clean)
    customers_found (row ∷ rows) (inr (f, first)) = inr (f, customers_first scale end (row ∷ rows) f first)

    due_found : (test : LineTest) (due : List LineTest) (row : Row) (rows : List Row) → LinesAbove 0 (row ∷ rows) → LinesFound due rows
        → HasNoKind (test (words_of row.text)) ⊎ ((kind : ReadFaultKind) × IsFirstKind (test (words_of row.text)) kind) → LinesFound (test ∷ due) (row ∷ rows)
    due_found test due row rows above (inl clean) (inl none) = inl (due_clean scale end test due row rows none clean)
    due_found test due row rows above (inr (f, first)) (inl none) = inr (f, due_first scale end test due row rows none f first)
    due_found test due row rows above later (inr (kind, first)) = inr (_, due_stops scale end test due row rows above kind first)

    lines_found : (due : List LineTest) (rows : List Row) → LinesAbove 0 rows → LinesFound due rows
    lines_found [] rows above = customers_found rows (first_stop_fault (customer_limits scale) None rows above)
    lines_found (test ∷ due) [] above = inr (_, cut_first scale end (test ∷ due))
    lines_found (test ∷ due) (row ∷ rows) above =
        due_found test due row rows above (lines_found due rows (above_weaker 0 row.line rows (omega arith) above.1)) (first_kind (test (words_of row.text)))

  -- the problem of the lines, if there are enough
  some_problem : (rows : List Row) → (length rows ≤ 6 → ⊥) → (problem : Instance) × IsProblemOf scale rows problem
  some_problem [] many = absurd (many (omega arith))
  some_problem (a ∷ []) many = absurd (many (omega arith))
  some_problem (a ∷ b ∷ []) many = absurd (many (omega arith))
  some_problem (a ∷ b ∷ c ∷ []) many = absurd (many (omega arith))
  some_problem (a ∷ b ∷ c ∷ d ∷ []) many = absurd (many (omega arith))
  some_problem (a ∷ b ∷ c ∷ d ∷ e ∷ []) many = absurd (many (omega arith))
  some_problem (a ∷ b ∷ c ∷ d ∷ e ∷ f ∷ []) many = absurd (many (omega arith))
  some_problem (a ∷ b ∷ c ∷ d ∷ e ∷ f ∷ depot ∷ customers) many = (_, refl)

  solomon_read : (text : List ℕ) → SpellsOrFails (SpellsSolomon scale text) (SolomonFault scale text)
  solomon_read text =
      ⊎_elim
      (λ clean.
      let some = some_problem (rows_of text) (λ few. clean OfText (length (lines_of text) + 1) Truncated (few, refl)) in
      inl (some.0, (clean, some.1)))
      (λ first. inr first)
      (lines_found (length (lines_of text) + 1) heading (rows_of text) (rows_above 0 (lines_of text)))

layout_read : (layout : Layout) (scale : Scale) (text : List ℕ) → SpellsOrFails (SpellsLayout layout scale text) (LayoutFault layout scale text)
layout_read LiLim scale text = lilim_read scale text
layout_read Solomon scale text = solomon_read scale text
layout_read Vrp scale text = vrp_read scale text

pub texts_are_read : TextsHaveAReading
texts_are_read format text = layout_read format.layout format.scale text

-- there are no two readings: each rank belongs to one kind, and each of two first faults is no later than the
-- other
abbrev ranked : ℕ → ReadFaultKind
ranked n = slice_index_or (FieldCount ∷ all_kinds) n FieldCount

ranked_rank : (k : ReadFaultKind) → ranked (rank k) ≡ k
ranked_rank = each_kind (λ k. ranked (rank k) ≡ k) (refl, (refl, (refl, (refl, (refl, (refl, (refl, (refl, (refl, (refl, (refl, (refl, (refl, tt)))))))))))))

same_kind : (j k : ReadFaultKind) → rank j ≡ rank k → j ≡ k
same_kind j k e = sym (ranked_rank j) ∙ ap ranked e ∙ ranked_rank k

same_place : (line : ℕ) (kind : ReadFaultKind) (other : ℕ) (its : ReadFaultKind) → IsNoLaterPlace line kind other its → IsNoLaterPlace other its line kind → (line ≡ other) × (kind ≡ its)
same_place line kind other its (inl a) (inl b) = absurd (omega (arith, a, b))
same_place line kind other its (inl a) (inr b) = absurd (omega (arith, a, b.0))
same_place line kind other its (inr a) (inl b) = absurd (omega (arith, a.0, b))
same_place line kind other its (inr a) (inr b) = (a.0, same_kind kind its (omega (arith, a.1, b.1)))

same_fault : (f g : ReadFault) → (f.line ≡ g.line) × (f.kind ≡ g.kind) → f ≡ g
same_fault f g e = ap₂ {C = ReadFault} (λ line kind. record { line = line; kind = kind }) e.0 e.1

module _ (Fault : Class → ℕ → ReadFaultKind → Type 0) (f g : ReadFault) where
  one_class : (c d : Class) → IsNoLater c f.line f.kind d g.line g.kind → IsNoLater d g.line g.kind c f.line f.kind → f ≡ g
  one_class OfLine OfLine a b = same_fault f g (same_place f.line f.kind g.line g.kind a b)
  one_class OfLine OfText a b = absurd b
  one_class OfText OfLine a b = absurd a
  one_class OfText OfText a b = same_fault f g (same_place f.line f.kind g.line g.kind a b)

  one_fault : IsFirstFault Fault f → IsFirstFault Fault g → f ≡ g
  one_fault p q = one_class p.0 q.0 (p.2 q.0 g.line g.kind q.1) (q.2 p.0 f.line f.kind p.1)

none_first : (Fault : Class → ℕ → ReadFaultKind → Type 0) (f : ReadFault) → HasNoFault Fault → IsFirstFault Fault f → ⊥
none_first Fault f none first = none first.0 f.line f.kind first.1

-- the problem of the lines, if there are enough
one_problem : (scale : Scale) (rows : List Row) (header depot : Row) (customers : List Row) (other its : Row) (others : List Row) → rows ≡ header ∷ depot ∷ customers
    → rows ≡ other ∷ its ∷ others → problem_of scale header depot customers ≡ problem_of scale other its others
one_problem scale rows header depot customers other its others is same =
    let whole = sym is ∙ same in
    let rest = cons_tail header other (depot ∷ customers) (its ∷ others) whole in
    ap (λ row. problem_of scale row depot customers) (cons_head header other (depot ∷ customers) (its ∷ others) whole)
    ∙ ap (λ row. problem_of scale other row customers) (cons_head depot its customers others rest) ∙ ap (problem_of scale other its) (cons_tail depot its customers others rest)

pub same_singles : (scale : Scale) (rows : List Row) (p q : Instance) → IsProblemOf scale rows p → IsProblemOf scale rows q → p ≡ q
same_singles scale (a ∷ b ∷ c ∷ d ∷ e ∷ f ∷ depot ∷ customers) p q is same = is ∙ sym same
same_singles scale rows p q is same = absurd is

layout_read_one_way : (layout : Layout) (scale : Scale) (text : List ℕ) → IsUniqueReading (SpellsLayout layout scale text) (LayoutFault layout scale text)
layout_read_one_way LiLim scale text = record {
  problems = λ p q a b. a.5 ∙ one_problem scale (rows_of text) a.1 a.2 a.3 b.1 b.2 b.3 a.4 b.4 ∙ sym b.5;
  faults = one_fault (LilimFault scale text);
  either = λ p f a first. none_first (LilimFault scale text) f a.0 first;
}
layout_read_one_way Solomon scale text = record {
  problems = λ p q a b. same_singles scale (rows_of text) p q a.1 b.1;
  faults = one_fault (SolomonFault scale text);
  either = λ p f a first. none_first (SolomonFault scale text) f a.0 first;
}
layout_read_one_way Vrp scale text = record {
  problems = λ p q a b. a.1 ∙ sym b.1;
  faults = one_fault (VrpFault scale text);
  either = λ p f a first. none_first (VrpFault scale text) f a.0 first;
}

pub texts_are_read_one_way : ReadingsAreUnique
texts_are_read_one_way format text = layout_read_one_way format.layout format.scale text

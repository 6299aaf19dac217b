-- The first fault of a Li-Lim text, from the faults of its lines.
use Rattle.std.proofs.Common.{◌≡◌, ℕ, zero, suc, ◌+◌, ◌<◌, ◌≤◌, Bool, true, false, cond, ◌⊎◌, inl, inr, ⊎_elim, List, [], ◌∷◌, ◌++◌, length, map, drop, Option}
use Rattle.std.proofs.Common.{Some, None, refl, sym, ap, subst, ◌∙◌, arith, length-append, ℤ}
use Rattle.std.specs.Prelude.{find, Contains}
use Rattle.std.specs.List.{AllByRecursion, last_or}
use Rattle.std.proofs.lemmas.Bool.{cases_lt, false≢true}
use Rattle.std.proofs.lemmas.List.{drop_all}
use Rattle.std.proofs.lemmas.Option.{none-some, same_Some}
use Rattle.text_lines.specs.Lines.{lines_of}
use Rattle.text_lines.specs.Words.{words_of}
use Rattle.instance_read.specs.declared.faults.ReadFault.{ReadFault}
use Rattle.instance_read.specs.declared.faults.ReadFaultKind.{ReadFaultKind}
use Rattle.instance_read.specs.declared.faults.ReadFaultKind.TheVariants.{PairMismatch, Truncated}
use Rattle.instance_read.specs.declared.scales.Scale.{Scale}
use Rattle.instance_read.specs.declared.tasks.Task.{Task}
use Rattle.instance_read.specs.Faults.{Class, OfLine, OfText, rank, HasNoFault, IsFirstFault, IsNoLater, IsNoLaterPlace}
use Rattle.instance_read.specs.Lilim.{LilimFault, customers_of, header_fault, row_fault, stop_fault, task_limits}
use Rattle.instance_read.specs.Pairs.{is_mismatched, task_of}
use Rattle.instance_read.specs.Rows.{Row, rows_of}
use Rattle.instance_read.specs.Tables.{ArePaired}
use Rattle.instance_read.specs.TaskFaults.{HasNoKind, IsFirstKind, StopLineFault, TaskLineFault, HasNoTaskFault, IsFirstTaskFault, LinesAbove}
use Rattle.instance_read.proofs.TaskFaultLemmas.{rows_above, fault_above}

pub cons_head : {X : Type 0} (x y : X) (xs ys : List X) → x ∷ xs ≡ y ∷ ys → x ≡ y
cons_head x y xs ys e = cc

pub cons_tail : {X : Type 0} (x y : X) (xs ys : List X) → x ∷ xs ≡ y ∷ ys → xs ≡ ys
cons_tail x y xs ys e = cc

-- a fault of one line with a stop is a fault of these lines
pub split_fault : (limits : List (ℤ × ℤ)) (previous : Option Task) (rows before : List Row) (row : Row) (after : List Row) (line : ℕ) (kind : ReadFaultKind) → rows ≡ before ++ row ∷ after
    → row.line ≡ line → stop_fault limits (last_or previous (map task_of before)) (words_of row.text) kind ≡ true → StopLineFault limits previous rows line kind
split_fault limits previous [] [] row after line kind e at fault = absurd (cc)
split_fault limits previous [] (b ∷ before) row after line kind e at fault = absurd (cc)
split_fault limits previous (r ∷ rows) [] row after line kind e at fault =
    let P : Row → Type 0 = λ q. (q.line ≡ line) × (stop_fault limits previous (words_of q.text) kind ≡ true) in
    inl (subst P (sym (cons_head r row rows after e)) (at, fault))
split_fault limits previous (r ∷ rows) (b ∷ before) row after line kind e at fault =
    let same : b ≡ r = sym (cons_head r b rows (before ++ row ∷ after) e) in
    let P : Row → Type 0 = λ q. StopLineFault limits (Some (task_of q)) rows line kind in
    inr (subst P same (split_fault limits (Some (task_of b)) rows before row after line kind (cons_tail r b rows (before ++ row ∷ after) e) at fault))

-- the lines before and after a line with a fault
abbrev pub Split : List (ℤ × ℤ) → Option Task → List Row → ℕ → ReadFaultKind → Type 0
Split limits previous rows line kind =
    (before : List Row) × (row : Row) × (after : List Row) × (rows ≡ before ++ row ∷ after) × (row.line ≡ line)
    × (stop_fault limits (last_or previous (map task_of before)) (words_of row.text) kind ≡ true)

pub fault_split : (limits : List (ℤ × ℤ)) (previous : Option Task) (rows : List Row) (line : ℕ) (kind : ReadFaultKind) → StopLineFault limits previous rows line kind
    → Split limits previous rows line kind
fault_split limits previous [] line kind f = absurd f
fault_split limits previous (r ∷ rows) line kind (inl here) = ([], r, rows, refl, here.0, here.1)
fault_split limits previous (r ∷ rows) line kind (inr later) =
    let rest = fault_split limits (Some (task_of r)) rows line kind later in
    (r ∷ rest.0, rest.1, rest.2, ap (λ xs. r ∷ xs) rest.3, rest.4, rest.5)

module _ (scale : Scale) where
  -- a fault of a line is one of the header or of a task line
  abbrev HeaderFault : Row → ℕ → ReadFaultKind → Type 0
  HeaderFault header line kind = (header.line ≡ line) × (header_fault (words_of header.text) kind ≡ true)

  line_cases : (rows : List Row) (header : Row) (rest before : List Row) (row : Row) (after : List Row) (line : ℕ) (kind : ReadFaultKind) → rows ≡ header ∷ rest
      → rows ≡ before ++ row ∷ after → row.line ≡ line → row_fault scale before row kind ≡ true → HeaderFault header line kind ⊎ TaskLineFault scale None rest line kind
  line_cases rows header rest [] row after line kind is split at fault =
      let P : Row → Type 0 = λ q. HeaderFault q line kind in
      inl (subst P (sym (cons_head header row rest after (sym is ∙ split))) (at, fault))
  line_cases rows header rest (b ∷ before) row after line kind is split at fault =
      inr (split_fault (task_limits scale) None rest before row after line kind (cons_tail header b rest (before ++ row ∷ after) (sym is ∙ split)) at fault)

  -- a task on this line is mismatched
  abbrev Mismatch : List ℕ → ℕ → Type 0
  Mismatch text line = (t : Task) × Contains (customers_of text) t × (t.line ≡ line) × (is_mismatched (customers_of text) t ≡ true)

  abbrev Cut : List ℕ → ℕ → Type 0
  Cut text line = (length (rows_of text) < 2) × (line ≡ length (lines_of text) + 1)

  text_cases : (text : List ℕ) (line : ℕ) (kind : ReadFaultKind) → LilimFault scale text OfText line kind → ((kind ≡ PairMismatch) × Mismatch text line) ⊎ ((kind ≡ Truncated) × Cut text line)
  text_cases text line PairMismatch f = inl (refl, f)
  text_cases text line Truncated f = inr (refl, f)
  text_cases text line _ f = absurd f

  none_contained : {X : Type 0} (x : X) → Contains [] x → ⊥
  none_contained x h = omega (arith, h.1)

  customers_none : (text : List ℕ) → length (rows_of text) < 2 → customers_of text ≡ []
  unfolding customers_of
  customers_none text short = ap (map task_of) (drop_all 2 (rows_of text) (omega arith))

  -- facts about a text that is cut off: no header, or no depot, and no fault in a line
  module _ (text : List ℕ) (short : length (rows_of text) < 2) (clean : (line : ℕ) (kind : ReadFaultKind) → LilimFault scale text OfLine line kind → ⊥) where
    cut_cases : (class : Class) (line : ℕ) (kind : ReadFaultKind) → LilimFault scale text class line kind → IsNoLater OfText (length (lines_of text) + 1) Truncated class line kind
    cut_cases OfLine line kind f = clean line kind f
    cut_cases OfText line kind f =
        ⊎_elim
        (λ m. let P : List Task → Type 0 = λ ts. Contains ts m.1.0 in absurd (none_contained m.1.0 (subst P (customers_none text short) m.1.1)))
        (λ c. inr (sym c.1.1, omega (arith, ap rank c.0)))
        (text_cases text line kind f)

    pub cut_first : IsFirstFault (LilimFault scale text) (record { line = length (lines_of text) + 1; kind = Truncated })
    cut_first = (OfText, (short, refl), cut_cases)

  pub no_rows_first : (text : List ℕ) → rows_of text ≡ [] → IsFirstFault (LilimFault scale text) (record { line = length (lines_of text) + 1; kind = Truncated })
  no_rows_first text is =
      cut_first text (omega (arith, ap length is)) (λ line kind f.
      omega (arith, ap length (sym is ∙ f.3), length-append f.0 (f.1 ∷ f.2)))

  -- facts about a text with a header
  module _ (text : List ℕ) (header : Row) (rest : List Row) (is : rows_of text ≡ header ∷ rest) where
    pub rest_above : LinesAbove header.line rest
    rest_above = let P : List Row → Type 0 = LinesAbove 0 in (subst P is (rows_above 0 (lines_of text))).1

    line_fault : (line : ℕ) (kind : ReadFaultKind) → LilimFault scale text OfLine line kind → HeaderFault header line kind ⊎ TaskLineFault scale None rest line kind
    line_fault line kind f = line_cases (rows_of text) header rest f.0 f.1 f.2 line kind is f.3 f.4 f.5

    header_no_later : (found : ReadFaultKind) → IsFirstKind (header_fault (words_of header.text)) found → (line : ℕ) (kind : ReadFaultKind)
        → HeaderFault header line kind ⊎ TaskLineFault scale None rest line kind → IsNoLaterPlace header.line found line kind
    header_no_later found h line kind (inl here) = inr (here.0, h.1 kind here.1)
    header_no_later found h line kind (inr later) = inl (fault_above (task_limits scale) header.line None rest line kind rest_above later)

    header_cases : (found : ReadFaultKind) → IsFirstKind (header_fault (words_of header.text)) found → (class : Class) (line : ℕ) (kind : ReadFaultKind)
        → LilimFault scale text class line kind → IsNoLater OfLine header.line found class line kind
    header_cases found h OfLine line kind f = header_no_later found h line kind (line_fault line kind f)
    header_cases found h OfText line kind f = tt

    pub header_first : (found : ReadFaultKind) → IsFirstKind (header_fault (words_of header.text)) found → IsFirstFault (LilimFault scale text) (record { line = header.line; kind = found })
    header_first found h = (OfLine, ([], header, rest, is, refl, h.0), header_cases found h)

    module _ (sound : HasNoKind (header_fault (words_of header.text))) where
      only_tasks : (line : ℕ) (kind : ReadFaultKind) → HeaderFault header line kind ⊎ TaskLineFault scale None rest line kind → TaskLineFault scale None rest line kind
      only_tasks line kind (inl here) = absurd (false≢true (sym (sound kind) ∙ here.1))
      only_tasks line kind (inr later) = later

      task_cases : (f : ReadFault) → IsFirstTaskFault scale None rest f → (class : Class) (line : ℕ) (kind : ReadFaultKind) → LilimFault scale text class line kind → IsNoLater OfLine f.line f.kind class line kind
      task_cases f h OfLine line kind g = h.first line kind (only_tasks line kind (line_fault line kind g))
      task_cases f h OfText line kind g = tt

      pub task_first : (f : ReadFault) → IsFirstTaskFault scale None rest f → IsFirstFault (LilimFault scale text) f
      task_first f h =
          let at = fault_split (task_limits scale) None rest f.line f.kind h.here in
          (OfLine, (header ∷ at.0, at.1, at.2, is ∙ ap (λ xs. header ∷ xs) at.3, at.4, at.5), task_cases f h)

      pub no_tasks_first : rest ≡ [] → IsFirstFault (LilimFault scale text) (record { line = length (lines_of text) + 1; kind = Truncated })
      no_tasks_first none =
          cut_first text (omega (arith, ap length is, ap length none)) (λ line kind f.
          let P : List Row → Type 0 = λ xs. TaskLineFault scale None xs line kind in
          subst P none (only_tasks line kind (line_fault line kind f)))

  -- the first task that a test finds is one of the tasks, and its line is the smallest of those of all tasks that
  -- pass the test
  contains_head : {X : Type 0} (x : X) (xs : List X) → Contains (x ∷ xs) x
  contains_head x xs = (0, omega arith, refl)

  contains_more : {X : Type 0} (x y : X) (xs : List X) → Contains xs y → Contains (x ∷ xs) y
  contains_more x y xs h = (suc h.0, omega (arith, h.1), h.2)

  found_cond : (p : Task → Bool) (x t : Task) (ts : List Task) (b : Bool) → p x ≡ b → (find p ts ≡ Some t → Contains ts t × (p t ≡ true))
      → cond b (Some x) (find p ts) ≡ Some t → Contains (x ∷ ts) t × (p t ≡ true)
  found_cond p x t ts true e h is =
      let P : Task → Type 0 = λ u. Contains (x ∷ ts) u × (p u ≡ true) in subst P (same_Some x t is) (contains_head x ts, e)
  found_cond p x t ts false e h is = let rest = h is in (contains_more x t ts rest.0, rest.1)

  found_in : (p : Task → Bool) (ts : List Task) (t : Task) → find p ts ≡ Some t → Contains ts t × (p t ≡ true)
  found_in p [] t is = absurd (none-some t is)
  found_in p (x ∷ ts) t is = found_cond p x t ts (p x) refl (found_in p ts t) is

  task_line : (row : Row) → (task_of row).line ≡ row.line
  unfolding task_of
  task_line row = refl

  line_above : (n : ℕ) (rows : List Row) (u : Task) → LinesAbove n rows → Contains (map task_of rows) u → n < u.line
  line_above n [] u above here = absurd (none_contained u here)
  line_above n (row ∷ rows) u above (zero, l, at) = omega (arith, above.0, task_line row, ap (λ (t : Task). t.line) at)
  line_above n (row ∷ rows) u above (suc k, l, at) = omega (arith, above.0, line_above row.line rows u above.1 (k, omega arith, at))

  least_cond : (p : Task → Bool) (row : Row) (rows : List Row) (t u : Task) (b : Bool) → p (task_of row) ≡ b → LinesAbove row.line rows
      → Contains (task_of row ∷ map task_of rows) u → p u ≡ true → (find p (map task_of rows) ≡ Some t → Contains (map task_of rows) u → t.line ≤ u.line)
      → cond b (Some (task_of row)) (find p (map task_of rows)) ≡ Some t → t.line ≤ u.line
  least_cond p row rows t u true e above (zero, l, at) fails h is =
      omega (arith, ap (λ (x : Task). x.line) (same_Some (task_of row) t is), ap (λ (x : Task). x.line) at)
  least_cond p row rows t u true e above (suc k, l, at) fails h is =
      omega (arith, task_line row, ap (λ (x : Task). x.line) (same_Some (task_of row) t is), line_above row.line rows u above (k, omega arith, at))
  least_cond p row rows t u false e above (zero, l, at) fails h is = absurd (false≢true (sym e ∙ ap p at ∙ fails))
  least_cond p row rows t u false e above (suc k, l, at) fails h is = h is (k, omega arith, at)

  find_least : (p : Task → Bool) (n : ℕ) (rows : List Row) (t u : Task) → LinesAbove n rows → find p (map task_of rows) ≡ Some t → Contains (map task_of rows) u → p u ≡ true → t.line ≤ u.line
  find_least p n [] t u above found here fails = absurd (none-some t found)
  find_least p n (row ∷ rows) t u above found here fails =
      least_cond p row rows t u (p (task_of row)) refl above.1 here fails (λ is more. find_least p row.line rows t u above.1 is more fails) found

  holds_in : (P : Task → Type 0) (ts : List Task) (u : Task) → AllByRecursion P ts → Contains ts u → P u
  holds_in P [] u all here = absurd (none_contained u here)
  holds_in P (t ∷ ts) u all (zero, l, at) = subst P at all.0
  holds_in P (t ∷ ts) u all (suc k, l, at) = holds_in P ts u all.1 (k, omega arith, at)

  -- facts about a text with a header and a depot, and no fault in a line
  module _ (text : List ℕ) (header depot : Row) (customers : List Row) (is : rows_of text ≡ header ∷ depot ∷ customers)
      (sound : HasNoKind (header_fault (words_of header.text))) (clean : HasNoTaskFault scale None (depot ∷ customers)) where
    tasks : customers_of text ≡ map task_of customers
    unfolding customers_of
    tasks = ap (λ rows. map task_of (drop 2 rows)) is

    no_line_fault : (line : ℕ) (kind : ReadFaultKind) → LilimFault scale text OfLine line kind → ⊥
    no_line_fault line kind f = clean line kind (only_tasks text header (depot ∷ customers) is sound line kind (line_fault text header (depot ∷ customers) is line kind f))

    not_cut : (line : ℕ) → Cut text line → ⊥
    not_cut line cut = omega (arith, cut.0, ap length is)

    mismatch_cases : (t : Task) → find (is_mismatched (map task_of customers)) (map task_of customers) ≡ Some t → (class : Class) (line : ℕ) (kind : ReadFaultKind)
        → LilimFault scale text class line kind → IsNoLater OfText t.line PairMismatch class line kind
    mismatch_cases t found OfLine line kind f = no_line_fault line kind f
    mismatch_cases t found OfText line kind f =
        ⊎_elim
        (λ m.
        let P : List Task → Type 0 = λ ts. Contains ts m.1.0 × (is_mismatched ts m.1.0 ≡ true) in
        let here = subst P tasks (m.1.1, m.1.3) in
        let least : t.line ≤ line = omega (
          arith,
          m.1.2,
          find_least (is_mismatched (map task_of customers)) depot.line customers t m.1.0
              (rest_above text header (depot ∷ customers) is).1 found here.0 here.1,
        ) in
        ⊎_elim (λ less. inl less) (λ le. inr (omega arith, omega (arith, ap rank m.0))) (cases_lt t.line line))
        (λ cut. absurd (not_cut line cut.1))
        (text_cases text line kind f)

    pub mismatch_first : (t : Task) → find (is_mismatched (map task_of customers)) (map task_of customers) ≡ Some t → IsFirstFault (LilimFault scale text) (record { line = t.line; kind = PairMismatch })
    mismatch_first t found =
        let here = found_in (is_mismatched (map task_of customers)) (map task_of customers) t found in
        let P : List Task → Type 0 = λ ts. Contains ts t × (is_mismatched ts t ≡ true) in
        let there = subst P (sym tasks) here in
        (OfText, (t, there.0, refl, there.1), mismatch_cases t found)

    none_cases : ArePaired (map task_of customers) → (class : Class) (line : ℕ) (kind : ReadFaultKind) → LilimFault scale text class line kind → ⊥
    none_cases paired OfLine line kind f = no_line_fault line kind f
    none_cases paired OfText line kind f =
        ⊎_elim
        (λ m.
        let P : List Task → Type 0 = λ ts. Contains ts m.1.0 × (is_mismatched ts m.1.0 ≡ true) in
        let here = subst P tasks (m.1.1, m.1.3) in
        false≢true (sym (holds_in (λ t. is_mismatched (map task_of customers) t ≡ false) (map task_of customers) m.1.0 paired here.0) ∙ here.1))
        (λ cut. not_cut line cut.1)
        (text_cases text line kind f)

    pub has_none : ArePaired (map task_of customers) → HasNoFault (LilimFault scale text)
    has_none paired = none_cases paired

-- The lines of a `.vrp` text, read one after another.
use Rattle.std.proofs.Common.{◌≡◌, ℕ, zero, suc, ◌+◌, ◌-◌, ◌≤◌, Bool, true, false, cond, eqb, ◌⊎◌, inl, inr, List, [], ◌∷◌, ◌++◌, length, Option, Some, None}
use Rattle.std.proofs.Common.{refl, sym, ap, subst, ◌∙◌, arith, ℤ, pos, length-append, append_assoc, append-nil}
use Rattle.std.specs.Prelude.{is_none, is_some, unwrap_or, nat_lt}
use Rattle.std.specs.Int.RustNames.{unsigned_abs}
use Rattle.std.specs.Option.{option_map}
use Rattle.std.proofs.lemmas.Bool.{false≢true, or_parts, eqb-true, eqb-false, ltb-true, not-false}
use Rattle.std.proofs.lemmas.List.{length-replicate, length-set}
use Rattle.text_lines.specs.Numbers.{number_of}
use Rattle.text_lines.specs.Words.{words_of}
use Rattle.instance_read.specs.declared.faults.ReadFault.{ReadFault}
use Rattle.instance_read.specs.declared.faults.ReadFaultKind.{ReadFaultKind}
use Rattle.instance_read.specs.declared.faults.ReadFaultKind.TheVariants.{BadNumber, FieldCount, NodeRepeated, OutOfMemory}
use Rattle.instance_read.specs.declared.scales.Scale.{Scale}
use Rattle.instance_read.specs.declared.vrp_draft.VrpDraft.{VrpDraft}
use Rattle.instance_read.specs.declared.vrp_lines.Key.{Key}
use Rattle.instance_read.specs.declared.vrp_lines.Key.TheVariants.{Dimension, Coordinates, Demands, Depots}
use Rattle.instance_read.specs.declared.vrp_lines.Section.{Section}
use Rattle.instance_read.specs.declared.vrp_lines.Section.TheVariants.{Outside, CoordinateLine, DemandLine, DepotLine, AfterEnd}
use Rattle.instance_read.specs.Drafts.{FitsSection, IsDraft, TakesLine, TakesValue, ReportsKind, has_seen, line_fault, nodes_in, with_key}
use Rattle.instance_read.specs.Fields.{field, has_no_number, is_no_number, value_at}
use Rattle.instance_read.specs.Rows.{Row}
use Rattle.instance_read.specs.Vrp.{key_fault, place_fault}
use Rattle.instance_read.specs.VrpLines.{Placed, coordinates_left, demands_left, depots_after, end_from, lines_left, key_of, nodes_after, nodes_in_key}
use Rattle.instance_read.specs.VrpLines.{place_after, place_after_key, placed_from, value_of, value_words}
use Rattle.instance_read.specs.DraftLines.{HasNoLineFault, IsFirstFaultyLine, IsDraftOfLines, ReportsLine, placed_rows}
use Rattle.instance_read.specs.TaskFaults.{HasNoKind, IsFirstKind}
use Rattle.instance_read.proofs.DraftLemmas.{placed}
use Rattle.instance_read.proofs.LilimLemmas.{cons_head, cons_tail}
use Rattle.instance_read.proofs.LineLemmas.{announced_is, knows_more, same_fault}
use Rattle.instance_read.proofs.DraftLemmas.{some_false}

-- one list, split at two elements: the elements are at the same place, or one of them comes before the other
pub compare_splits : {A : Type 0} (b : List A) (x : A) (a c : List A) (y : A) (d : List A) → b ++ x ∷ a ≡ c ++ y ∷ d
    → ((b ≡ c) × (x ≡ y)) ⊎ (((m : List A) × (c ≡ b ++ x ∷ m)) ⊎ ((m : List A) × (b ≡ c ++ y ∷ m)))
compare_splits [] x a [] y d e = inl (refl, cons_head x y a d e)
compare_splits [] x a (z ∷ c) y d e = inr (inl (c, ap (λ w. w ∷ c) (sym (cons_head x z a (c ++ y ∷ d) e))))
compare_splits (z ∷ b) x a [] y d e = inr (inr (b, ap (λ w. w ∷ b) (cons_head z y (b ++ x ∷ a) d e)))
compare_splits {A} (z ∷ b) x a (w ∷ c) y d e =
    let head = cons_head z w (b ++ x ∷ a) (c ++ y ∷ d) e in
    step (compare_splits b x a c y d (cons_tail z w (b ++ x ∷ a) (c ++ y ∷ d) e)) head
  where
    step : ((b ≡ c) × (x ≡ y)) ⊎ (((m : List A) × (c ≡ b ++ x ∷ m)) ⊎ ((m : List A) × (b ≡ c ++ y ∷ m))) → z ≡ w
        → ((z ∷ b ≡ w ∷ c) × (x ≡ y)) ⊎ (((m : List A) × (w ∷ c ≡ z ∷ (b ++ x ∷ m))) ⊎ ((m : List A) × (z ∷ b ≡ w ∷ (c ++ y ∷ m))))
    step (inl same) h = inl (ap (λ q. q ∷ b) h ∙ ap (λ l. w ∷ l) same.0, same.1)
    step (inr (inl later)) h = inr (inl (later.0, ap (λ q. q ∷ c) (sym h) ∙ ap (λ l. z ∷ l) later.1))
    step (inr (inr earlier)) h = inr (inr (earlier.0, ap (λ q. q ∷ b) h ∙ ap (λ l. w ∷ l) earlier.1))

-- one more line without a fault, after lines without a fault
pub clean_more : (scale : Scale) (before : List Placed) (p : Placed) → HasNoLineFault scale before → HasNoKind (place_fault scale before p.row p.place) → HasNoLineFault scale (before ++ p ∷ [])
clean_more scale before p clean none b q a e =
    by (compare_splits before p [] b q a e)
  where
    by : ((before ≡ b) × (p ≡ q)) ⊎ (((m : List Placed) × (b ≡ before ++ p ∷ m)) ⊎ ((m : List Placed) × (before ≡ b ++ q ∷ m))) → HasNoKind (place_fault scale b q.row q.place)
    by (inl same) =
        let P : List Placed → Type 0 = λ l. HasNoKind (place_fault scale l q.row q.place) in
        let Q : Placed → Type 0 = λ r. HasNoKind (place_fault scale before r.row r.place) in
        subst P same.0 (subst Q same.1 none)
    by (inr (inl longer)) =
        absurd (omega (arith, ap length e, ap length longer.1, length-append before (p ∷ []), length-append b (q ∷ a), length-append before (p ∷ longer.0)))
    by (inr (inr earlier)) = clean b q earlier.0 earlier.1

-- if a line has words, and all of them are numbers, it has a first number
field_there : (words : List (List ℕ)) → 1 ≤ length words → has_no_number words ≡ false → field words 0 ≡ Some (value_at words 0)
field_there [] some numbers = absurd (omega (arith, some))
field_there (w ∷ words) some numbers = by (number_of w) (or_parts (is_no_number w) (has_no_number words) numbers).0
  where
    by : (o : Option ℤ) → is_none o ≡ false → o ≡ Some (unwrap_or o (pos 0))
    by None h = absurd (false≢true (sym h))
    by (Some z) h = refl

pub nodes_other : (row : Row) (key : Key) (o : Option ℕ) → key_of row ≡ key → nodes_in_key row key ≡ None → nodes_after o row Outside ≡ o
nodes_other row key (Some n) key_is none = refl
nodes_other row key None key_is none = ap (nodes_in_key row) key_is ∙ none

-- the number of nodes announced after a line with a key
nodes_key : (before : List Placed) (row : Row) (old new : VrpDraft) (key : Key) → key_of row ≡ key → IsDraftOfLines before old
    → HasNoKind (key_fault (is_some old.nodes) (has_seen old key) (value_of row) key) → TakesValue (with_key old key) row.line (value_of row) key new → nodes_after old.nodes row Outside ≡ new.nodes
nodes_key before row old new Dimension key_is known none takes =
    let words = value_words row in
    let count = eqb-true (length words) 1 (not-false (eqb (length words) 1) (none FieldCount)) in
    let fresh = some_false old.nodes (sym (announced_is before old known) ∙ sym (known.seen Dimension) ∙ none NodeRepeated) in
    ap (λ o. nodes_after o row Outside) fresh ∙ ap (nodes_in_key row) key_is
    ∙ ap (option_map unsigned_abs) (field_there words (omega (arith, count)) (none BadNumber)) ∙ sym (ap (λ (d : VrpDraft). d.nodes) takes)
nodes_key before row old new Coordinates key_is known none takes = nodes_other row Coordinates old.nodes key_is refl ∙ sym (ap (λ (d : VrpDraft). d.nodes) takes.0)
nodes_key before row old new Demands key_is known none takes = nodes_other row Demands old.nodes key_is refl ∙ sym (ap (λ (d : VrpDraft). d.nodes) takes.0)
nodes_key before row old new key key_is known none takes = nodes_other row key old.nodes key_is refl ∙ sym (ap (λ (d : VrpDraft). d.nodes) takes)

nodes_section : (o : Option ℕ) (row : Row) (place : Section) → ((n : ℕ) → nodes_after None row place ≡ None) → nodes_after o row place ≡ o
nodes_section None row place none = none 0
nodes_section (Some n) row place none = refl

nodes_step : (before : List Placed) (row : Row) (place : Section) (old new : VrpDraft) → IsDraftOfLines before old → HasNoKind (line_fault old row place)
    → TakesLine old row place new → nodes_after old.nodes row place ≡ new.nodes
nodes_step before row Outside old new known none takes = nodes_key before row old new (key_of row) refl known none takes
nodes_step before row (CoordinateLine n) old new known none takes = nodes_section old.nodes row (CoordinateLine n) (λ _. refl) ∙ sym (ap (λ (d : VrpDraft). d.nodes) takes.0)
nodes_step before row (DemandLine n) old new known none takes = nodes_section old.nodes row (DemandLine n) (λ _. refl) ∙ sym (ap (λ (d : VrpDraft). d.nodes) takes.0)
nodes_step before row (DepotLine n) old new known none takes = nodes_section old.nodes row (DepotLine n) (λ _. refl) ∙ sym (ap (λ (d : VrpDraft). d.nodes) takes)
nodes_step before row AfterEnd old new known none takes = nodes_section old.nodes row AfterEnd (λ _. refl) ∙ sym (ap (λ (d : VrpDraft). d.nodes) takes)

-- the draft has the table that the section after a line needs
fits_left : (line : ℕ → Section) (n : ℕ) (d : VrpDraft) → ((k : ℕ) → 1 ≤ k → FitsSection (line k) d) → FitsSection (lines_left line n) d
fits_left line n d fits = by (eqb n 0) refl
  where
    by : (b : Bool) → eqb n 0 ≡ b → FitsSection (cond b Outside (line n)) d
    by true e = tt
    by false e = let ne = eqb-false n 0 e in fits n (omega (arith, ne))

fits_coordinates : (n : ℕ) (d : VrpDraft) → length d.coordinates.items ≡ nodes_in d → FitsSection (coordinates_left n) d
fits_coordinates n d long = fits_left (λ k. CoordinateLine k) n d (λ k some. (some, long))

fits_demands : (n : ℕ) (d : VrpDraft) → length d.demands.items ≡ nodes_in d → FitsSection (demands_left n) d
fits_demands n d long = fits_left (λ k. DemandLine k) n d (λ k some. (some, long))

fits_depots : (n : ℕ) (d : VrpDraft) → FitsSection (depots_after n) d
fits_depots n d = by (nat_lt n 2) refl
  where
    by : (b : Bool) → nat_lt n 2 ≡ b → FitsSection (cond b (DepotLine n) Outside) d
    by true e = ltb-true n 2 e
    by false e = tt

fits_key : (row : Row) (old new : VrpDraft) (nodes : Option ℕ) (key : Key) → nodes ≡ old.nodes → TakesValue (with_key old key) row.line (value_of row) key new
    → FitsSection (place_after_key nodes key) new
fits_key row old new (Some n) Coordinates is takes =
    fits_coordinates n new (ap length takes.1 ∙ length-replicate {A = Option (ℤ × ℤ)} (nodes_in old) None ∙ sym (ap (λ (d : VrpDraft). nodes_in d) takes.0))
fits_key row old new (Some n) Demands is takes =
    fits_demands n new (ap length takes.1 ∙ length-replicate {A = Option ℤ} (nodes_in old) None ∙ sym (ap (λ (d : VrpDraft). nodes_in d) takes.0))
fits_key row old new None Coordinates is takes = tt
fits_key row old new None Demands is takes = tt
fits_key row old new nodes Depots is takes = omega arith
fits_key row old new nodes _ is takes = tt

fits_next : (row : Row) (place : Section) (old new : VrpDraft) → FitsSection place old → TakesLine old row place new → FitsSection (place_after old.nodes row place) new
fits_next row Outside old new fits takes = fits_key row old new old.nodes (key_of row) refl takes
fits_next row (CoordinateLine n) old new fits takes =
    fits_coordinates (n - 1) new (ap length takes.1 ∙ length-set old.coordinates.items _ _ ∙ fits.1 ∙ sym (ap (λ (d : VrpDraft). nodes_in d) takes.0))
fits_next row (DemandLine n) old new fits takes =
    fits_demands (n - 1) new (ap length takes.1 ∙ length-set old.demands.items _ _ ∙ fits.1 ∙ sym (ap (λ (d : VrpDraft). nodes_in d) takes.0))
fits_next row (DepotLine n) old new fits takes = fits_depots (n + length (words_of row.text)) new
fits_next row AfterEnd old new fits takes = tt

-- the lines before the rest are read: the draft has their data, and none of them has a fault
pub record IsReading (scale : Scale) (all : List Row) (draft : VrpDraft) (place : Section) (rest : List Row) : Type 0 where
  pub before : List Placed
  pub splits : placed_rows all ≡ before ++ placed_from draft.nodes place rest
  pub ends : end_from None Outside all ≡ end_from draft.nodes place rest
  pub known : IsDraftOfLines before draft
  pub scale_is : draft.scale ≡ scale
  pub clean : HasNoLineFault scale before
  pub valid : IsDraft draft
  pub fits : FitsSection place draft

pub placed_step : (nodes : Option ℕ) (place : Section) (row : Row) (more : List Row)
    → placed_from nodes place (row ∷ more) ≡ placed row place ∷ placed_from (nodes_after nodes row place) (place_after nodes row place) more
unfolding placed_from
placed_step nodes place row more = refl

pub placed_none : (nodes : Option ℕ) (place : Section) → placed_from nodes place [] ≡ []
unfolding placed_from
placed_none nodes place = refl

-- no line changes the scale
scale_key : (row : Row) (old new : VrpDraft) (key : Key) → TakesValue (with_key old key) row.line (value_of row) key new → new.scale ≡ old.scale
scale_key row old new Coordinates takes = ap (λ (d : VrpDraft). d.scale) takes.0
scale_key row old new Demands takes = ap (λ (d : VrpDraft). d.scale) takes.0
scale_key row old new _ takes = ap (λ (d : VrpDraft). d.scale) takes

scale_kept : (row : Row) (place : Section) (old new : VrpDraft) → TakesLine old row place new → new.scale ≡ old.scale
scale_kept row Outside old new takes = scale_key row old new (key_of row) takes
scale_kept row (CoordinateLine n) old new takes = ap (λ (d : VrpDraft). d.scale) takes.0
scale_kept row (DemandLine n) old new takes = ap (λ (d : VrpDraft). d.scale) takes.0
scale_kept row (DepotLine seen) old new takes = ap (λ (d : VrpDraft). d.scale) takes
scale_kept row AfterEnd old new takes = ap (λ (d : VrpDraft). d.scale) takes

-- facts about the state after one more line
module _ (scale : Scale) (all : List Row) (old new : VrpDraft) (place next : Section) (rest more : List Row) (row : Row) (steps : rest ≡ row ∷ more) (reading : IsReading scale all old place rest) where
  split_here : placed_rows all ≡ reading.before ++ placed row place ∷ placed_from (nodes_after old.nodes row place) (place_after old.nodes row place) more
  split_here = reading.splits ∙ ap (λ rows. reading.before ++ placed_from old.nodes place rows) steps ∙ ap (λ ps. reading.before ++ ps) (placed_step old.nodes place row more)

  same : (kind : ReadFaultKind) → place_fault scale reading.before row place kind ≡ line_fault old row place kind
  same kind = ap (λ s. place_fault s reading.before row place kind) (sym reading.scale_is) ∙ same_fault reading.before old reading.known row place kind

  pub reading_more : HasNoKind (line_fault old row place) → TakesLine old row place new → next ≡ place_after old.nodes row place → IsDraft new → IsReading scale all new next more
  reading_more none takes goes valid =
      let nodes = nodes_step reading.before row place old new reading.known none takes in
      let P : Section → Type 0 = λ p. FitsSection p new in
      record {
        before = reading.before ++ placed row place ∷ [];
        splits = split_here ∙ ap (λ o. reading.before ++ placed row place ∷ placed_from o (place_after old.nodes row place) more) nodes
            ∙ ap (λ p. reading.before ++ placed row place ∷ placed_from new.nodes p more) (sym goes)
            ∙ sym (append_assoc reading.before (placed row place ∷ []) (placed_from new.nodes next more));
        ends = reading.ends ∙ ap (end_from old.nodes place) steps ∙ ap (λ o. end_from o (place_after old.nodes row place) more) nodes ∙ ap (λ p. end_from new.nodes p more) (sym goes);
        known = knows_more reading.before row place old new reading.valid reading.known reading.fits none takes;
        scale_is = scale_kept row place old new takes ∙ reading.scale_is;
        clean = clean_more scale reading.before (placed row place) reading.clean (λ kind. same kind ∙ none kind);
        valid = valid;
        fits = subst P (sym goes) (fits_next row place old new reading.fits takes);
      }

  first_here : (kind : ReadFaultKind) → IsFirstKind (line_fault old row place) kind → IsFirstKind (place_fault scale reading.before row place) kind
  first_here kind h = (same kind ∙ h.0, λ k e. h.1 k (sym (same k) ∙ e))

  pub reading_stops : (kind : ReadFaultKind) (f : ReadFault) → ReportsKind (line_fault old row place) kind
      → (kind ≡ OutOfMemory → f ≡ record { line = 0; kind = OutOfMemory }) → ((kind ≡ OutOfMemory → ⊥) → f ≡ record { line = row.line; kind = kind }) → ReportsLine scale (placed_rows all) f
  reading_stops kind f (inl memory) reported other = inl (reported memory)
  reading_stops kind f (inr first) reported other =
      let P : ReadFault → Type 0 = IsFirstFaultyLine scale (placed_rows all) in
      let here = first_here kind first in
      inr (subst P (sym (other (λ e. out_of_memory row place (subst (λ (k : ReadFaultKind). line_fault old row place k ≡ true) e first.0))))
      (record {
        before = reading.before;
        here = placed row place;
        after = placed_from (nodes_after old.nodes row place)
            (place_after old.nodes row place) more;
        splits = split_here;
        line = refl;
        kind = here;
        clean = reading.clean;
      }))
    where
      no_memory_key : (announced stands : Bool) (value : List ℕ) (key : Key) → key_fault announced stands value key OutOfMemory ≡ true → ⊥
      no_memory_key announced stands value Dimension e = false≢true e
      no_memory_key announced stands value _ e = false≢true e

      out_of_memory : (row : Row) (place : Section) → line_fault old row place OutOfMemory ≡ true → ⊥
      out_of_memory row Outside e = no_memory_key (is_some old.nodes) (has_seen old (key_of row)) (value_of row) (key_of row) e
      out_of_memory row (DepotLine zero) e = false≢true e
      out_of_memory row (DepotLine (suc n)) e = false≢true e
      out_of_memory row _ e = false≢true e

-- the case in which all lines are read
pub reading_done : (scale : Scale) (all : List Row) (draft : VrpDraft) (place : Section) (rest : List Row) → rest ≡ [] → IsReading scale all draft place rest
    → IsDraftOfLines (placed_rows all) draft × IsDraft draft × (draft.scale ≡ scale) × HasNoLineFault scale (placed_rows all) × (place ≡ end_from None Outside all)
reading_done scale all draft place rest none reading =
    let is = reading.splits ∙ ap (λ rows. reading.before ++ placed_from draft.nodes place rows) none ∙ ap (λ ps. reading.before ++ ps) (placed_none draft.nodes place) ∙ append-nil reading.before in
    let P : List Placed → Type 0 = λ ps. IsDraftOfLines ps draft in
    let Q : List Placed → Type 0 = HasNoLineFault scale in
    (subst P (sym is) reading.known, reading.valid, reading.scale_is, subst Q (sym is) reading.clean, sym (reading.ends ∙ ap (end_from draft.nodes place) none))

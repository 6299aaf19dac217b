-- A section of a `.vrp` text with a line for each stop: its lines have no fault, and each node's line is found.
use Rattle.std.proofs.Common.{◌≡◌, ◌≢◌, ◌⊎◌, ℕ, zero, suc, ◌+◌, ◌<◌, Bool, true, false, cond, eqb, inl, inr, List, [], ◌∷◌, ◌++◌, length, map, slice_get, Option, Some, None, ℤ, pos, refl}
use Rattle.std.proofs.Common.{sym, ap, ◌∙◌, arith, append_assoc, append-nil}
use Rattle.std.specs.Prelude.{find, not, unwrap_or}
use Rattle.std.specs.Fmt.{signed_decimal}
use Rattle.std.specs.List.{AllByRecursion, list_any}
use Rattle.std.specs.Option.{option_map_or}
use Rattle.std.specs.Ordering.{int_eq}
use Rattle.std.proofs.lemmas.Bool.{eq-eqb, false_from_ne_true, ne_eqb, or_from, or_parts}
use Rattle.std.proofs.lemmas.Bool.Decides.{Decides-int_eq, eqb_tells}
use Rattle.std.proofs.lemmas.List.Folds.{list_any-append}
use Rattle.text_lines.specs.Words.{words_of}
use Rattle.plan_types.specs.declared.requests.Stop.{Stop}
use Rattle.instance_read.specs.declared.faults.ReadFaultKind.{ReadFaultKind}
use Rattle.instance_read.specs.declared.faults.ReadFaultKind.TheVariants.{BadNumber, Range, FieldCount, NodeRepeated}
use Rattle.instance_read.specs.declared.scales.Scale.TheVariants.{One}
use Rattle.instance_read.specs.declared.vrp_lines.Key.{Key}
use Rattle.instance_read.specs.declared.vrp_lines.Section.{Section}
use Rattle.instance_read.specs.Fields.{field, passes_test, value_at}
use Rattle.instance_read.specs.Rows.{Row}
use Rattle.instance_read.specs.Vrp.{any_key, has_node, is_node_line, node_fault, nodes_of, place_fault, is_outside}
use Rattle.instance_read.specs.VrpLaws.{section_lines}
use Rattle.instance_read.specs.VrpLines.{Placed}
use Rattle.instance_read.specs.TaskFaults.{HasNoKind}
use Rattle.instance_text.specs.Texts.{numbers_text}
use Rattle.instance_text.proofs.CustomerLemmas.{AreNumbered}
use Rattle.instance_text.proofs.LineLemmas.{AreSmall, AreWithin, all_numbers, field_read, none_beyond, numbered, value_read, words_read}
use Rattle.instance_text.proofs.PlacedLemmas.{CleanFrom}

some_same : {X : Type 0} {x y : X} → Some x ≡ Some y → x ≡ y
some_same h = cc

pos_same : (a b : ℕ) → pos a ≡ pos b → a ≡ b
pos_same a b h = cc

pub find_skip : {X : Type 0} (test : X → Bool) (xs ys : List X) → list_any test xs ≡ false → find test (xs ++ ys) ≡ find test ys
find_skip test [] ys none = refl
find_skip test (x ∷ xs) ys none = let parts = or_parts (test x) (list_any test xs) none in rw parts.0 (find_skip test xs ys parts.1)

-- different node numbers fail the test of equality
pub other_node : (a b : ℕ) → (a ≡ b → ⊥) → int_eq (pos a) (pos b) ≡ false
other_node a b apart = false_from_ne_true (int_eq (pos a) (pos b)) (λ h. absurd (apart (pos_same a b ((Decides-int_eq (pos a) (pos b)).0 h))))

-- the stop with this number
abbrev pub find_stop : ℕ → List Stop → Option Stop
find_stop n ss = find (λ s. eqb s.number n) ss

-- each stop is found by its number
numbers_apart : (n m : ℕ) (s : Stop) (ss all : List Stop) → s.number < n → AreNumbered n ss → AllByRecursion (λ t. find_stop t.number all ≡ Some t) ss
    → AllByRecursion (λ t. find_stop t.number (s ∷ all) ≡ Some t) ss
numbers_apart n m s [] all less are found = tt
numbers_apart n m s (t ∷ ss) all less are found =
    (rw (ne_eqb s.number t.number (λ h. absurd (omega (arith, less, h, are.0)))) found.0, numbers_apart (n + 1) m s ss all (omega (arith, less)) are.1 found.1)

pub stops_found : (n : ℕ) (ss : List Stop) → AreNumbered n ss → AllByRecursion (λ s. find_stop s.number ss ≡ Some s) ss
stops_found n [] are = tt
stops_found n (s ∷ ss) are =
    (rw (eq-eqb s.number s.number refl) refl, numbers_apart (n + 1) n s ss ss (omega (arith, are.0)) are.1 (stops_found (n + 1) ss are.1))

-- a section: `line` returns the place of a line, and `values` the numbers that the line of a stop has, the node
-- first
module _ (line : ℕ → Section) (section : Section → Bool) (values : Stop → List ℤ)
    (within : (k : ℕ) → section (line k) ≡ true) (inside : (k : ℕ) → is_outside (line k) ≡ false) where
  abbrev pub line_text : Stop → List ℕ
  line_text s = numbers_text (values s)

  abbrev pub rows_at : ℕ → List Stop → List Row
  rows_at at ss = numbered at (map line_text ss)

  abbrev pub placed_at : ℕ → List Stop → List Placed
  placed_at at ss = section_lines line (length ss) (rows_at at ss)

  pub record IsLine (s : Stop) : Type 0 where
    pub small : AreSmall (values s)
    pub first : slice_get (values s) 0 ≡ Some (pos (s.number + 1))

  node_read : (s : Stop) → IsLine s → field (words_of (line_text s)) 0 ≡ Some (pos (s.number + 1))
  node_read s is = ap (λ ws. field ws 0) (words_read (values s) is.small) ∙ field_read (values s) 0 is.small ∙ is.first

  is_node : (z : ℤ) (s : Stop) (at k : ℕ) → IsLine s → is_node_line section z (record { row = record { line = at; text = line_text s }; place = line k }) ≡ int_eq z (pos (s.number + 1))
  is_node z s at k is = rw (within k, node_read s is) refl

  -- the section has no line with a key, and no line of another section
  pub no_key : (key : Key) (k : ℕ) (rows : List Row) → any_key key (section_lines line k rows) ≡ false
  no_key key zero rows = refl
  no_key key (suc k) [] = refl
  no_key key (suc k) (row ∷ rows) = rw (inside (suc k)) (no_key key k rows)

  pub no_other : (other : Section → Bool) → ((k : ℕ) → other (line k) ≡ false) → (z : ℤ) (k : ℕ) (rows : List Row) → has_node other (section_lines line k rows) z ≡ false
  no_other other apart z zero rows = refl
  no_other other apart z (suc k) [] = refl
  no_other other apart z (suc k) (row ∷ rows) = rw (apart (suc k)) (no_other other apart z k rows)

  -- the value at a place of a node's line
  value_here : (k at left : ℕ) (s : Stop) → IsLine s → value_at (words_of (line_text s)) k ≡ unwrap_or (slice_get (values s) k) (pos 0)
  value_here k at left s is = ap (λ ws. value_at ws k) (words_read (values s) is.small) ∙ value_read (values s) k is.small

  pub value_found : (k at i : ℕ) (s : Stop) (ss : List Stop) (rest : List Placed) → AllByRecursion IsLine ss → find_stop i ss ≡ Some s
      → option_map_or (λ (p : Placed). value_at (words_of p.row.text) k) (find (is_node_line section (pos (i + 1))) (placed_at at ss ++ rest)) (pos 0) ≡ unwrap_or (slice_get (values s) k) (pos 0)
  value_found k at i s [] rest are is = absurd (none_some is)
    where
      none_some : None ≡ Some s → ⊥
      none_some h = cc
  value_found k at i s (t ∷ ss) rest are is = by (eqb_tells t.number i) (λ h. value_found k (at + 1) i s ss rest are.1 h)
    where
      read : Option Placed → ℤ
      read o = option_map_or (λ (p : Placed). value_at (words_of p.row.text) k) o (pos 0)

      here : Placed
      here = record { row = record { line = at; text = line_text t }; place = line (suc (length ss)) }

      later_lines : Option Placed
      later_lines = find (is_node_line section (pos (i + 1))) (placed_at (at + 1) ss ++ rest)

      hit : is_node_line section (pos (i + 1)) here ≡ int_eq (pos (i + 1)) (pos (t.number + 1))
      hit = is_node (pos (i + 1)) t at (suc (length ss)) are.0

      by : ((eqb t.number i ≡ true) × (t.number ≡ i)) ⊎ ((eqb t.number i ≡ false) × (t.number ≢ i))
          → (find_stop i ss ≡ Some s → read (find (is_node_line section (pos (i + 1))) (placed_at (at + 1) ss ++ rest)) ≡ unwrap_or (slice_get (values s) k) (pos 0))
          → read (find (is_node_line section (pos (i + 1))) (placed_at at (t ∷ ss) ++ rest)) ≡ unwrap_or (slice_get (values s) k) (pos 0)
      by (inl e) later =
          let same : t ≡ s = (let g : cond (eqb t.number i) (Some t) (find_stop i ss) ≡ Some s = is in some_same (rw e.0 at g)) in
          let yes : is_node_line section (pos (i + 1)) here ≡ true =
          hit ∙ (Decides-int_eq (pos (i + 1)) (pos (t.number + 1))).1 (ap (λ n. pos (n + 1)) (sym e.1))
          in
          ap (λ b. read (cond b (Some here) later_lines)) yes
          ∙ value_here k at 0 t are.0
          ∙ ap (λ x. unwrap_or (slice_get (values x) k) (pos 0)) same
      by (inr e) later =
          let no : is_node_line section (pos (i + 1)) here ≡ false =
          hit ∙ other_node (i + 1) (t.number + 1) (λ h. e.1 (omega (arith, h)))
          in
          ap (λ b. read (cond b (Some here) later_lines)) no
          ∙ later (let g : cond (eqb t.number i) (Some t) (find_stop i ss) ≡ Some s = is in rw e.0 at g)

  -- ---- no line has a fault
  module _ (count : ℕ) (limits : ℕ → List (ℤ × ℤ)) (nodes : ℕ)
      (fault_is : (before : List Placed) (row : Row) (k : ℕ) (kind : ReadFaultKind)
      → place_fault One before row (line k) kind ≡ node_fault count (limits (nodes_of before)) (has_node section before) (words_of row.text) kind) where
    pub record IsSound (s : Stop) : Type 0 where
      pub is_line : IsLine s
      pub counted : eqb (length (map signed_decimal (values s))) count ≡ true
      pub bounded : AreWithin (limits nodes) (values s)

    fault_among : (taken : ℤ → Bool) (s : Stop) → IsSound s → taken (pos (s.number + 1)) ≡ false → HasNoKind (node_fault count (limits nodes) taken (map signed_decimal (values s)))
    fault_among taken s is free FieldCount = ap not is.counted
    fault_among taken s is free BadNumber = all_numbers (values s) is.is_line.small
    fault_among taken s is free Range = none_beyond (limits nodes) (values s) is.is_line.small is.bounded
    fault_among taken s is free NodeRepeated = ap (passes_test taken) (field_read (values s) 0 is.is_line.small ∙ is.is_line.first) ∙ free
    fault_among taken s is free _ = refl

    no_fault : (before : List Placed) (s : Stop) (at k : ℕ) → IsSound s → nodes_of before ≡ nodes
        → has_node section before (pos (s.number + 1)) ≡ false → HasNoKind (place_fault One before (record { line = at; text = line_text s }) (line k))
    no_fault before s at k is announced free kind =
        fault_is before (record { line = at; text = line_text s }) k kind
        ∙ ap (λ n. node_fault count (limits n) (has_node section before) (words_of (line_text s)) kind) announced
        ∙ ap (λ ws. node_fault count (limits nodes) (has_node section before) ws kind) (words_read (values s) is.is_line.small)
        ∙ fault_among (has_node section before) s is free kind

    pub section_clean : (n at : ℕ) (before : List Placed) (ss : List Stop) → AreNumbered n ss → AllByRecursion IsSound ss
        → ((rest : List Placed) → nodes_of (before ++ rest) ≡ nodes) → ((j : ℕ) → n < j → has_node section before (pos j) ≡ false) → CleanFrom before (placed_at at ss)
    section_clean n at before [] are sound announced free = tt
    section_clean n at before (s ∷ ss) are sound announced free =
        let p : Placed = record { row = record { line = at; text = line_text s }; place = line (suc (length ss)) } in
        let here : nodes_of before ≡ nodes = ap nodes_of (sym (append-nil before)) ∙ announced [] in
        let later : (rest : List Placed) → nodes_of ((before ++ p ∷ []) ++ rest) ≡ nodes = λ rest. ap nodes_of (append_assoc before (p ∷ []) rest) ∙ announced (p ∷ rest) in
        let still : (j : ℕ) → n + 1 < j → has_node section (before ++ p ∷ []) (pos j) ≡ false = λ j less.
        list_any-append (is_node_line section (pos j)) before (p ∷ [])
        ∙ or_from (has_node section before (pos j)) (has_node section (p ∷ []) (pos j)) (free j (omega (arith, less)))
        (or_from (is_node_line section (pos j) p) false (is_node (pos j) s at (suc (length ss)) sound.0.is_line ∙ other_node j (s.number + 1) (λ h. absurd (omega (arith, less, h, are.0)))) refl)
        in
        (no_fault before s at (suc (length ss)) sound.0 here (free (s.number + 1) (omega (arith, are.0))), section_clean (n + 1) (at + 1) (before ++ p ∷ []) ss are.1 sound.1 later still)

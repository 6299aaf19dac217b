-- The draft after one more line has the data of all lines so far, and determines the faults of the next line.
use Rattle.std.proofs.Common.{◌≡◌, ℕ, zero, suc, ◌<◌, Bool, true, false, cond, eqb, List, [], ◌∷◌, ◌++◌, length, replicate, set, Option, Some, None, ⊎_elim}
use Rattle.std.proofs.Common.{refl, sym, ap, ◌∙◌, arith, ℤ, pos, negsuc, get_or-set_same, get_or-set_other}
use Rattle.std.specs.Prelude.{find, is_some, slice_index_or, ◌||◌}
use Rattle.std.specs.List.{list_any}
use Rattle.std.specs.Option.{option_map, option_or}
use Rattle.std.proofs.lemmas.Bool.{cases_lt, false≢true, or_parts, eqb-true, eqb-false}
use Rattle.std.proofs.lemmas.Option.{none-some}
use Rattle.std.proofs.lemmas.List.{get_or_past, get_or-replicate, length-replicate}
use Rattle.std.proofs.lemmas.List.Folds.{find-append, list_any-append}
use Rattle.std.proofs.Math.Bool.{or-false, or-true}
use Rattle.instance_read.specs.declared.faults.ReadFaultKind.TheVariants.{FieldCount, NodeRepeated, Unsupported}
use Rattle.instance_read.specs.declared.vrp_draft.VrpDraft.{VrpDraft}
use Rattle.instance_read.specs.declared.vrp_lines.Key.{Key}
use Rattle.instance_read.specs.declared.vrp_lines.Key.TheVariants.{Dimension, Capacity, Refused, Coordinates, Demands, End, StrayNumber}
use Rattle.instance_read.specs.declared.vrp_lines.Section.{Section}
use Rattle.instance_read.specs.declared.vrp_lines.Section.TheVariants.{Outside}
use Rattle.instance_read.specs.Drafts.{IsDraft, TakesValue, entry_at, has_seen, nodes_in, with_key}
use Rattle.instance_read.specs.Rows.{Row}
use Rattle.instance_read.specs.Vrp.{any_key, first_key, has_key, in_coordinates, in_demands, is_node_line, key_fault, key_number}
use Rattle.instance_read.specs.VrpLines.{Placed, key_of, value_of}
use Rattle.instance_read.specs.DraftLines.{IsDraftOfLines, demand_in, number_in, point_in}
use Rattle.instance_read.specs.TaskFaults.{HasNoKind}

abbrev pub placed : Row → Section → Placed
placed row place = record { row = row; place = place }

pub any_is_find : {X : Type 0} (test : X → Bool) (xs : List X) → list_any test xs ≡ is_some (find test xs)
any_is_find test [] = refl
any_is_find {X} test (x ∷ xs) = by (test x) (any_is_find test xs)
  where
    by : (b : Bool) → list_any test xs ≡ is_some (find test xs) → (b || list_any test xs) ≡ is_some (cond b (Some x) (find test xs))
    by true rest = refl
    by false rest = rest

pub some_map : {X Y : Type 0} (f : X → Y) (o : Option X) → is_some (option_map f o) ≡ is_some o
some_map f None = refl
some_map f (Some x) = refl

or_none : {X : Type 0} (o : Option X) → option_or o None ≡ o
or_none None = refl
or_none (Some x) = refl

or_left : (a b : Bool) → (a || b) ≡ false → a ≡ false
or_left a b e = (or_parts a b e).0

-- facts about some lines, with one more line at the end
module _ (before : List Placed) (p : Placed) where
  any_more : (test : Placed → Bool) → list_any test (before ++ p ∷ []) ≡ (list_any test before || test p)
  any_more test = list_any-append test before (p ∷ []) ∙ ap (λ b. list_any test before || b) (or-false (test p))

  pub any_same : (test : Placed → Bool) → test p ≡ false → list_any test (before ++ p ∷ []) ≡ list_any test before
  any_same test other = any_more test ∙ ap (λ b. list_any test before || b) other ∙ or-false (list_any test before)

  pub find_same : (test : Placed → Bool) → test p ≡ false → find test (before ++ p ∷ []) ≡ find test before
  find_same test other = find-append test before (p ∷ []) ∙ ap (λ b. option_or (find test before) (cond b (Some p) None)) other ∙ or_none (find test before)

  pub find_new : (test : Placed → Bool) → test p ≡ true → find test before ≡ None → find test (before ++ p ∷ []) ≡ Some p
  find_new test here none =
      find-append test before (p ∷ []) ∙ ap (λ b. option_or (find test before) (cond b (Some p) None)) here ∙ ap (λ o. option_or o (Some p)) none

pub some_false : {X : Type 0} (o : Option X) → is_some o ≡ false → o ≡ None
some_false None h = refl
some_false (Some x) h = absurd (false≢true (sym h))

none_from_any : {X : Type 0} (test : X → Bool) (xs : List X) → list_any test xs ≡ false → find test xs ≡ None
none_from_any test xs e = some_false (find test xs) (sym (any_is_find test xs) ∙ e)

pub map_none : {X Y : Type 0} (f : X → Y) (o : Option X) → option_map f o ≡ None → o ≡ None
map_none f None e = refl
map_none f (Some x) e = absurd (none-some (f x) (sym e))

key_small : (key : Key) → key_number key < 11
key_small Dimension = omega arith
key_small _ = omega arith

-- a table of nodes that no line has named
abbrev blank : (X : Type 0) → ℕ → List (Option X)
blank X n = replicate n None

abbrev no_entries : (X : Type 0) → List (Option X)
no_entries X = []

blank_entry : (X : Type 0) (n k : ℕ) → slice_index_or (blank X n) k None ≡ None
blank_entry X n k =
    ⊎_elim
    (λ l. get_or-replicate n k None None (omega (arith, l, length-replicate {A = Option X} n None)))
    (λ past. get_or_past (blank X n) k None past)
    (cases_lt k (length (blank X n)))

entry_blank : (X : Type 0) (n : ℕ) (z : ℤ) → entry_at (blank X n) z ≡ entry_at (no_entries X) z
entry_blank X n (pos zero) = refl
entry_blank X n (pos (suc k)) = blank_entry X n k
entry_blank X n (negsuc k) = refl

-- a table has the data of the lines of its section, and is empty before its key
abbrev KnowsTable : {X : Type 0} → (Section → Bool) → (Placed → X) → Key → List Placed → List (Option X) → Type 0
KnowsTable section value_in k lines items =
    ((z : ℤ) → entry_at items z ≡ option_map value_in (find (is_node_line section z) lines)) × (any_key k lines ≡ false → items ≡ [])

-- the line of the first EOF, after one more line
end_more : (before : List Placed) (row : Row) → has_key End (placed row Outside) ≡ true
    → option_or (option_map (λ (r : Row). r.line) (first_key End before)) (Some row.line) ≡ option_map (λ (r : Row). r.line) (first_key End (before ++ placed row Outside ∷ []))
end_more before row this =
    by (find (has_key End) before)
    ∙ sym (ap (λ (o : Option Placed). option_map (λ (r : Row). r.line) (option_map (λ (p : Placed). p.row) o))
    (find-append (has_key End) before (placed row Outside ∷ []) ∙ ap (λ b. option_or (find (has_key End) before) (cond b (Some (placed row Outside)) None)) this))
  where
    by : (o : Option Placed) → option_or (option_map (λ (r : Row). r.line) (option_map (λ (p : Placed). p.row) o)) (Some row.line) ≡ option_map (λ (r : Row). r.line)
        (option_map (λ (p : Placed). p.row) (option_or o (Some (placed row Outside))))
    by None = refl
    by (Some q) = refl

-- a line outside the sections, with this key
module _ (before : List Placed) (row : Row) (key : Key) (key_is : key_of row ≡ key) where
  has_is : (k : Key) → has_key k (placed row Outside) ≡ eqb (key_number key) (key_number k)
  has_is k = ap (λ x. eqb (key_number x) (key_number k)) key_is

  other_first : (k : Key) → eqb (key_number key) (key_number k) ≡ false → first_key k (before ++ placed row Outside ∷ []) ≡ first_key k before
  other_first k other = ap (option_map (λ p. p.row)) (find_same before (placed row Outside) (has_key k) (has_is k ∙ other))

  new_first : (k : Key) → eqb (key_number key) (key_number k) ≡ true → any_key k before ≡ false → first_key k (before ++ placed row Outside ∷ []) ≡ Some row
  new_first k this fresh = ap (option_map (λ p. p.row)) (find_new before (placed row Outside) (has_key k) (has_is k ∙ this) (none_from_any (has_key k) before fresh))

  new_any : (k : Key) → eqb (key_number key) (key_number k) ≡ true → any_key k (before ++ placed row Outside ∷ []) ≡ true
  new_any k this = any_more before (placed row Outside) (has_key k) ∙ ap (λ b. any_key k before || b) (has_is k ∙ this) ∙ or-true (any_key k before)

  seen_cases : (old_seen : List Bool) → length old_seen ≡ 11 → (k : Key) (b : Bool) → eqb (key_number key) (key_number k) ≡ b
      → slice_index_or old_seen (key_number k) false ≡ any_key k before → slice_index_or (set old_seen (key_number key) true) (key_number k) false ≡ any_key k (before ++ placed row Outside ∷ [])
  seen_cases old_seen long k true this known =
      let same = eqb-true (key_number key) (key_number k) this in
      ap (λ i. slice_index_or (set old_seen (key_number key) true) i false) (sym same)
      ∙ get_or-set_same old_seen (key_number key) true false (omega (arith, long, key_small key))
      ∙ sym (new_any k this)
  seen_cases old_seen long k false other known =
      get_or-set_other old_seen (key_number key) (key_number k) true false (λ e. eqb-false (key_number key) (key_number k) other (sym e))
      ∙ known ∙ sym (any_same before (placed row Outside) (has_key k) (has_is k ∙ other))

  -- a table of nodes after this line
  module _ {X : Type 0} (section : Section → Bool) (value_in : Placed → X) (k : Key) (other : (z : ℤ) → is_node_line section z (placed row Outside) ≡ false)
      (items new : List (Option X)) (known : KnowsTable section value_in k before items) where
    entries_stay : (z : ℤ) → entry_at items z ≡ option_map value_in (find (is_node_line section z) (before ++ placed row Outside ∷ []))
    entries_stay z = known.0 z ∙ ap (option_map value_in) (sym (find_same before (placed row Outside) (is_node_line section z) (other z)))

    none_before : any_key k (before ++ placed row Outside ∷ []) ≡ false → any_key k before ≡ false
    none_before e = or_left (any_key k before) (has_key k (placed row Outside)) (sym (any_more before (placed row Outside) (has_key k)) ∙ e)

    table_kept : new ≡ items → KnowsTable section value_in k (before ++ placed row Outside ∷ []) new
    table_kept same = (λ z. ap (λ t. entry_at t z) same ∙ entries_stay z, λ e. same ∙ known.1 (none_before e))

    -- the case in which the section of the table begins
    table_opened : (n : ℕ) → eqb (key_number key) (key_number k) ≡ true → any_key k before ≡ false → new ≡ blank X n → KnowsTable section value_in k (before ++ placed row Outside ∷ []) new
    table_opened n this fresh is = (
      λ z. ap (λ t. entry_at t z) is ∙ entry_blank X n z ∙ ap (λ t. entry_at t z) (sym (known.1 fresh)) ∙ entries_stay z,
      λ e. absurd (false≢true (sym e ∙ new_any k this)),
    )

  module _ (old new : VrpDraft) (valid : IsDraft old) (known : IsDraftOfLines before old) where
    seen_kept : new.seen ≡ set old.seen (key_number key) true → (k : Key) → has_seen new k ≡ any_key k (before ++ placed row Outside ∷ [])
    seen_kept is k = ap (λ s. slice_index_or s (key_number k) false) is ∙ seen_cases old.seen valid.keys k (eqb (key_number key) (key_number k)) refl (known.seen k)

    nodes_kept : eqb (key_number key) 0 ≡ false → new.nodes ≡ old.nodes → new.nodes ≡ option_map number_in (first_key Dimension (before ++ placed row Outside ∷ []))
    nodes_kept other same = same ∙ known.nodes ∙ ap (option_map number_in) (sym (other_first Dimension other))

    capacity_kept : eqb (key_number key) 1 ≡ false → new.capacity ≡ old.capacity → new.capacity ≡ option_map number_in (first_key Capacity (before ++ placed row Outside ∷ []))
    capacity_kept other same = same ∙ known.capacity ∙ ap (option_map number_in) (sym (other_first Capacity other))

    end_kept : eqb (key_number key) 8 ≡ false → new.end ≡ old.end → new.end ≡ option_map (λ (r : Row). r.line) (first_key End (before ++ placed row Outside ∷ []))
    end_kept other same = same ∙ known.end ∙ ap (option_map (λ (r : Row). r.line)) (sym (other_first End other))

    points_kept : new.coordinates.items ≡ old.coordinates.items → KnowsTable in_coordinates point_in Coordinates (before ++ placed row Outside ∷ []) new.coordinates.items
    points_kept = table_kept in_coordinates point_in Coordinates (λ z. refl) old.coordinates.items new.coordinates.items (known.coordinates, known.no_coordinates)

    demands_kept : new.demands.items ≡ old.demands.items → KnowsTable in_demands demand_in Demands (before ++ placed row Outside ∷ []) new.demands.items
    demands_kept = table_kept in_demands demand_in Demands (λ z. refl) old.demands.items new.demands.items (known.demands, known.no_demands)

    parts_known : new.seen ≡ set old.seen (key_number key) true
        → KnowsTable in_coordinates point_in Coordinates (before ++ placed row Outside ∷ []) new.coordinates.items
        → KnowsTable in_demands demand_in Demands (before ++ placed row Outside ∷ []) new.demands.items
        → new.nodes ≡ option_map number_in (first_key Dimension (before ++ placed row Outside ∷ []))
        → new.capacity ≡ option_map number_in (first_key Capacity (before ++ placed row Outside ∷ []))
        → new.end ≡ option_map (λ (r : Row). r.line) (first_key End (before ++ placed row Outside ∷ [])) → IsDraftOfLines (before ++ placed row Outside ∷ []) new
    parts_known seen points demands nodes capacity end =
        record {
          seen = seen_kept seen;
          nodes = nodes;
          capacity = capacity;
          end = end;
          coordinates = points.0;
          demands = demands.0;
          no_coordinates = points.1;
          no_demands = demands.1;
        }

    -- the case in which the tables stay the same
    tables_kept : new.seen ≡ set old.seen (key_number key) true → new.coordinates.items ≡ old.coordinates.items → new.demands.items ≡ old.demands.items
        → new.nodes ≡ option_map number_in (first_key Dimension (before ++ placed row Outside ∷ []))
        → new.capacity ≡ option_map number_in (first_key Capacity (before ++ placed row Outside ∷ []))
        → new.end ≡ option_map (λ (r : Row). r.line) (first_key End (before ++ placed row Outside ∷ [])) → IsDraftOfLines (before ++ placed row Outside ∷ []) new
    tables_kept seen points demands = parts_known seen (points_kept points) (demands_kept demands)

    -- the case in which, besides the key, only the tables change
    tables_known : eqb (key_number key) 0 ≡ false → eqb (key_number key) 1 ≡ false → eqb (key_number key) 8 ≡ false → new.seen ≡ set old.seen (key_number key) true
        → new.nodes ≡ old.nodes → new.capacity ≡ old.capacity → new.end ≡ old.end
        → KnowsTable in_coordinates point_in Coordinates (before ++ placed row Outside ∷ []) new.coordinates.items
        → KnowsTable in_demands demand_in Demands (before ++ placed row Outside ∷ []) new.demands.items → IsDraftOfLines (before ++ placed row Outside ∷ []) new
    tables_known dimension capacity end seen same_nodes same_capacity same_end points demands =
        parts_known seen points demands (nodes_kept dimension same_nodes) (capacity_kept capacity same_capacity) (end_kept end same_end)

    -- the case in which only the key is recorded
    all_kept : eqb (key_number key) 0 ≡ false → eqb (key_number key) 1 ≡ false → eqb (key_number key) 8 ≡ false → new ≡ with_key old key → IsDraftOfLines (before ++ placed row Outside ∷ []) new
    all_kept dimension capacity end is =
        tables_known dimension capacity end (ap (λ (d : VrpDraft). d.seen) is) (ap (λ (d : VrpDraft). d.nodes) is) (ap (λ (d : VrpDraft). d.capacity) is) (ap (λ (d : VrpDraft). d.end) is)
        (points_kept (ap (λ (d : VrpDraft). d.coordinates.items) is)) (demands_kept (ap (λ (d : VrpDraft). d.demands.items) is))

-- the data that a line outside the sections adds
pub knows_key : (before : List Placed) (row : Row) (old new : VrpDraft) (key : Key) → key_of row ≡ key → IsDraft old → IsDraftOfLines before old
    → HasNoKind (key_fault (is_some old.nodes) (has_seen old key) (value_of row) key) → TakesValue (with_key old key) row.line (value_of row) key new → IsDraftOfLines (before ++ placed row Outside ∷ []) new
knows_key before row old new Dimension key_is valid known none is =
    let fresh = sym (known.seen Dimension) ∙ none NodeRepeated in
    tables_kept before row Dimension key_is old new valid known
    (ap (λ (d : VrpDraft). d.seen) is) (ap (λ (d : VrpDraft). d.coordinates.items) is) (ap (λ (d : VrpDraft). d.demands.items) is)
    (ap (λ (d : VrpDraft). d.nodes) is ∙ ap (option_map number_in) (sym (new_first before row Dimension key_is Dimension refl fresh)))
    (capacity_kept before row Dimension key_is old new valid known refl (ap (λ (d : VrpDraft). d.capacity) is))
    (end_kept before row Dimension key_is old new valid known refl (ap (λ (d : VrpDraft). d.end) is))
knows_key before row old new Capacity key_is valid known none is =
    let fresh = sym (known.seen Capacity) ∙ none NodeRepeated in
    tables_kept before row Capacity key_is old new valid known
    (ap (λ (d : VrpDraft). d.seen) is) (ap (λ (d : VrpDraft). d.coordinates.items) is) (ap (λ (d : VrpDraft). d.demands.items) is)
    (nodes_kept before row Capacity key_is old new valid known refl (ap (λ (d : VrpDraft). d.nodes) is))
    (ap (λ (d : VrpDraft). d.capacity) is ∙ ap (option_map number_in) (sym (new_first before row Capacity key_is Capacity refl fresh)))
    (end_kept before row Capacity key_is old new valid known refl (ap (λ (d : VrpDraft). d.end) is))
knows_key before row old new Coordinates key_is valid known none is =
    let fresh = sym (known.seen Coordinates) ∙ none NodeRepeated in
    tables_known before row Coordinates key_is old new valid known refl refl refl (ap (λ (d : VrpDraft). d.seen) is.0) (ap (λ (d : VrpDraft). d.nodes) is.0)
    (ap (λ (d : VrpDraft). d.capacity) is.0) (ap (λ (d : VrpDraft). d.end) is.0)
    (table_opened before row Coordinates key_is in_coordinates point_in Coordinates (λ z. refl) old.coordinates.items new.coordinates.items
    (known.coordinates, known.no_coordinates) (nodes_in old) refl fresh is.1)
    (demands_kept before row Coordinates key_is old new valid known (ap (λ (d : VrpDraft). d.demands.items) is.0))
knows_key before row old new Demands key_is valid known none is =
    let fresh = sym (known.seen Demands) ∙ none NodeRepeated in
    tables_known before row Demands key_is old new valid known refl refl refl (ap (λ (d : VrpDraft). d.seen) is.0) (ap (λ (d : VrpDraft). d.nodes) is.0)
    (ap (λ (d : VrpDraft). d.capacity) is.0) (ap (λ (d : VrpDraft). d.end) is.0)
    (points_kept before row Demands key_is old new valid known (ap (λ (d : VrpDraft). d.coordinates.items) is.0))
    (table_opened before row Demands key_is in_demands demand_in Demands (λ z. refl) old.demands.items new.demands.items (known.demands, known.no_demands) (nodes_in old) refl fresh is.1)
knows_key before row old new End key_is valid known none is =
    tables_kept before row End key_is old new valid known
    (ap (λ (d : VrpDraft). d.seen) is) (ap (λ (d : VrpDraft). d.coordinates.items) is) (ap (λ (d : VrpDraft). d.demands.items) is)
    (nodes_kept before row End key_is old new valid known refl (ap (λ (d : VrpDraft). d.nodes) is))
    (capacity_kept before row End key_is old new valid known refl (ap (λ (d : VrpDraft). d.capacity) is))
    (ap (λ (d : VrpDraft). d.end) is ∙ ap (λ o. option_or o (Some row.line)) known.end ∙ end_more before row (has_is before row End key_is End))
knows_key before row old new Refused key_is valid known none is = absurd (false≢true (sym (none Unsupported)))
knows_key before row old new StrayNumber key_is valid known none is = absurd (false≢true (sym (none FieldCount)))
knows_key before row old new key key_is valid known none is = all_kept before row key key_is old new valid known refl refl refl is

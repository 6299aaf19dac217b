-- The draft after the line of a node.
use Rattle.std.proofs.Common.{Less, Equal, Greater, ◌≡◌, ◌≢◌, ℕ, zero, suc, ◌+◌, ◌-◌, ◌<◌, Bool, true, false, cond, ◌⊎◌, inl, inr, eqb, List, [], ◌∷◌, ◌++◌}
use Rattle.std.proofs.Common.{length, set, Option, Some, None, ⊎_elim, refl, sym, ap, subst, ◌∙◌, arith, ℤ, pos, negsuc, get_or-set_same, get_or-set_other}
use Rattle.std.specs.Prelude.{find, slice_index_or, int_lt, ◌||◌, ◌&&◌}
use Rattle.std.specs.Int.RustNames.{unsigned_abs}
use Rattle.std.specs.Option.{option_map}
use Rattle.std.specs.Ordering.{int_eq, is_eq}
use Rattle.std.proofs.lemmas.Bool.{cases_lt, false≢true, or_parts, eqb-true, eqb-false, lt-ltb, le-ltb, ltb-false, not-false}
use Rattle.text_lines.specs.Words.{words_of}
use Rattle.instance_read.specs.declared.faults.ReadFaultKind.TheVariants.{BadNumber, FieldCount, Range, NodeRepeated}
use Rattle.instance_read.specs.declared.vrp_lines.Section.{Section}
use Rattle.instance_read.specs.Drafts.{entry_at, is_taken, node_index}
use Rattle.instance_read.specs.Fields.{field, is_beyond, passes_test, value_at}
use Rattle.instance_read.specs.Vrp.{is_node_line, node_fault}
use Rattle.instance_read.specs.VrpLines.{Placed}
use Rattle.instance_read.specs.TaskFaults.{HasNoKind}
use Rattle.instance_read.proofs.DraftLemmas.{find_new, find_same, map_none, some_false}
use Rattle.instance_read.proofs.LimitLemmas.{values_of}

-- the test for one number
abbrev is_one : ℤ → ℤ → Bool
is_one z y = int_eq z y

apart : (a b : Bool) → (a ≡ true) ⊎ (b ≡ true) → is_eq (cond a Less (cond b Greater Equal)) ≡ false
apart true b less = refl
apart false true less = refl
apart false false (inl less) = absurd (false≢true less)
apart false false (inr less) = absurd (false≢true less)

one_same : (n : ℕ) → is_one (pos n) (pos n) ≡ true
one_same n = ap (λ b. is_eq (cond b Less (cond b Greater Equal))) (le-ltb n n (omega arith))

one_other : (m n : ℕ) → m ≢ n → is_one (pos m) (pos n) ≡ false
one_other m n ne =
    ⊎_elim
    (λ l. apart (int_lt (pos m) (pos n)) (int_lt (pos n) (pos m)) (inr (lt-ltb n m l)))
    (λ le. apart (int_lt (pos m) (pos n)) (int_lt (pos n) (pos m)) (inl (lt-ltb m n (omega (arith, le, ne)))))
    (cases_lt n m)

-- a line of a section, with the number of a node that no earlier line has
module _ {X : Type 0} (section : Section → Bool) (value_in : Placed → X) (before : List Placed) (p : Placed) (inside : section p.place ≡ true) (table : List (Option X))
    (node : ℕ) (number : field (words_of p.row.text) 0 ≡ Some (pos (suc node))) (within : node < length table) (free : slice_index_or table node None ≡ None)
    (known : (z : ℤ) → entry_at table z ≡ option_map value_in (find (is_node_line section z) before)) where
  line_is : (z : ℤ) → is_node_line section z p ≡ is_one z (pos (suc node))
  line_is z = ap (λ b. b && passes_test (is_one z) (field (words_of p.row.text) 0)) inside ∙ ap (passes_test (is_one z)) number

  none_at : find (is_node_line section (pos (suc node))) before ≡ None
  none_at = map_none value_in (find (is_node_line section (pos (suc node))) before) (sym (known (pos (suc node))) ∙ free)

  other : (z : ℤ) → is_one z (pos (suc node)) ≡ false → option_map value_in (find (is_node_line section z) before) ≡ option_map value_in (find (is_node_line section z) (before ++ p ∷ []))
  other z ne = ap (option_map value_in) (sym (find_same before p (is_node_line section z) (line_is z ∙ ne)))

  entry_cases : (m : ℕ) (b : Bool) → eqb m node ≡ b → slice_index_or (set table node (Some (value_in p))) m None ≡ option_map value_in (find (is_node_line section (pos (suc m))) (before ++ p ∷ []))
  entry_cases m true e =
      let same = eqb-true m node e in
      let P : ℕ → Type 0 = λ k. slice_index_or (set table node (Some (value_in p))) k None ≡ option_map value_in (find (is_node_line section (pos (suc k))) (before ++ p ∷ [])) in
      subst P (sym same)
      (get_or-set_same table node (Some (value_in p)) None within
      ∙ ap (option_map value_in) (sym (find_new before p (is_node_line section (pos (suc node))) (line_is (pos (suc node)) ∙ one_same (suc node)) none_at)))
  entry_cases m false e =
      let ne = eqb-false m node e in
      get_or-set_other table node m (Some (value_in p)) None ne ∙ known (pos (suc m)) ∙ other (pos (suc m)) (one_other (suc m) (suc node) (omega (arith, ne)))

  pub entry_more : (z : ℤ) → entry_at (set table node (Some (value_in p))) z ≡ option_map value_in (find (is_node_line section z) (before ++ p ∷ []))
  entry_more (negsuc k) = known (negsuc k) ∙ other (negsuc k) refl
  entry_more (pos zero) = known (pos zero) ∙ other (pos zero) (one_other 0 (suc node) (omega arith))
  entry_more (pos (suc m)) = entry_cases m (eqb m node) refl

-- a node within its limits is one above an index of the table
node_from : (nodes : ℕ) (v : ℤ) → is_beyond (pos 1, pos nodes) v ≡ false → (k : ℕ) × (v ≡ pos (suc k)) × (k < nodes)
node_from nodes (pos zero) e = absurd (false≢true (sym e ∙ ap (λ b. b || int_lt (pos nodes) (pos 0)) (lt-ltb 0 1 (omega arith))))
node_from nodes (pos (suc k)) e = (k, refl, ltb-false nodes (suc k) (or_parts (int_lt (pos (suc k)) (pos 1)) (int_lt (pos nodes) (pos (suc k))) e).1)
node_from nodes (negsuc k) e = absurd (false≢true (sym e))

-- the node of a line without a fault
module _ {X : Type 0} (more : List (ℤ × ℤ)) (nodes : ℕ) (table : List (Option X)) (words : List (List ℕ))
    (none : HasNoKind (node_fault (length more + 1) ((pos 1, pos nodes) ∷ more) (is_taken table) words)) where
  first_value : (field words 0 ≡ Some (value_at words 0)) × (is_beyond (pos 1, pos nodes) (value_at words 0) ≡ false)
  first_value =
      let count = eqb-true (length words) (length more + 1) (not-false (eqb (length words) (length more + 1)) (none FieldCount)) in
      values_of ((pos 1, pos nodes) ∷ more) words 0 (omega (arith, count)) (none BadNumber) (none Range) (omega arith)

  pub node_of : (k : ℕ) × (value_at words 0 ≡ pos (suc k)) × (k < nodes)
  node_of = node_from nodes (value_at words 0) first_value.1

  pub number_is : field words 0 ≡ Some (pos (suc node_of.0))
  number_is = first_value.0 ∙ ap Some node_of.1

  pub index_is_node : node_index words ≡ node_of.0
  index_is_node = let back : suc node_of.0 - 1 ≡ node_of.0 = omega arith in ap (λ v. unsigned_abs v - 1) node_of.1 ∙ back

  pub node_below : node_of.0 < nodes
  node_below = node_of.2

  pub node_free : slice_index_or table node_of.0 None ≡ None
  node_free = some_false (slice_index_or table node_of.0 None) (sym (ap (passes_test (is_taken table)) number_is) ∙ none NodeRepeated)

-- The keys of a `.vrp` text that is written, and their values. None of them has a fault.
use Rattle.std.proofs.Common.{◌≡◌, ℕ, zero, suc, ◌<◌, ◌≤◌, ◌^◌, Bool, true, false, inl, List, [], ◌∷◌, ◌++◌, map, Option, Some, None, pos, negsuc, refl, sym, ap, subst, ◌∙◌, arith, append-nil}
use Rattle.std.specs.Prelude.{IfSome, codes, not, unsigned_abs}
use Rattle.std.specs.Fmt.{decimal, signed_decimal}
use Rattle.std.specs.List.{AllByRecursion, last_or, list_any}
use Rattle.std.specs.Option.{option_map}
use Rattle.std.specs.Str.{str_eq_ignore_ascii_case}
use Rattle.std.proofs.lemmas.Bool.{eq-eqb, false≢true, le-ltb, or_from, or_parts}
use Rattle.text_lines.specs.Words.{IsWord, is_blank, words_of}
use Rattle.text_lines.proofs.WordLemmas.{words_nil, words_of-front}
use Rattle.instance_read.specs.declared.faults.ReadFaultKind.{ReadFaultKind}
use Rattle.instance_read.specs.declared.faults.ReadFaultKind.TheVariants.{BadNumber, Range, FieldCount, TooManyStops, MissingKey, Unsupported, DepotNotFirst, NodeRepeated}
use Rattle.instance_read.specs.declared.scales.Scale.TheVariants.{One}
use Rattle.instance_read.specs.declared.vrp_lines.Key as its
use Rattle.instance_read.specs.declared.vrp_lines.Key.TheVariants as key
use Rattle.instance_read.specs.declared.vrp_lines.Section.TheVariants.{Outside}
use Rattle.instance_read.specs.Fields.{field, passes_test, value_at}
use Rattle.instance_read.specs.Rows.{Row}
use Rattle.instance_read.specs.Vrp.{any_key, capacity_fault, depot_fault, dimension_fault, key_fault, opening_fault, place_fault, repeated_fault, spelling_fault}
use Rattle.instance_read.specs.VrpKeys.{BeginsWithNonBlank, HasNoColon, IsTrimmed}
use Rattle.instance_read.specs.VrpLines.{Placed, is_colon, key_from, key_of, key_text, nodes_in_key, trimmed, value_of, value_text, value_words}
use Rattle.instance_read.specs.TaskFaults.{HasNoKind}
use Rattle.instance_read.proofs.KeyLineProofs.{key_lines}
use Rattle.instance_text.specs.Texts.{heading_text, key_line, numbers_text}
use Rattle.instance_text.specs.declared.lines.Heading.TheVariants as heading
use Rattle.instance_text.proofs.LineLemmas.{AreSmall, all_numbers, decimal_word, field_read, value_read, words_read}

-- ---- a key with its number
no_colon : (xs : List ℕ) → list_any is_colon xs ≡ false → HasNoColon xs
no_colon [] none (k, l, at) = omega (arith, l)
no_colon (x ∷ xs) none (zero, l, at) = false≢true (sym (or_parts (is_colon x) (list_any is_colon xs) none).0 ∙ eq-eqb x 58 at)
no_colon (x ∷ xs) none (suc k, l, at) = no_colon xs (or_parts (is_colon x) (list_any is_colon xs) none).1 (k, omega arith, at)

word_begins : (ds : List ℕ) → IsWord ds → BeginsWithNonBlank ds
word_begins [] is = tt
word_begins (d ∷ ds) is = is.1.0

last_solid : (o : Option ℕ) (ds : List ℕ) → IfSome o (λ b. is_blank b ≡ false) → AllByRecursion (λ b. is_blank b ≡ false) ds → IfSome (last_or o ds) (λ b. is_blank b ≡ false)
last_solid o [] known all = known
last_solid o (d ∷ ds) known all = last_solid (Some d) ds all.0 all.1

module _ (front word : List ℕ) (n : ℕ) (small : n < 2 ^ 64) (none : list_any is_colon front ≡ false) (trim : IsTrimmed front word) where
  keyed_parts : (key_text (front ++ (codes ":" ++ 32 ∷ decimal n)) ≡ word) × (value_text (front ++ (codes ":" ++ 32 ∷ decimal n)) ≡ decimal n)
  keyed_parts =
      (key_lines (front ++ (codes ":" ++ 32 ∷ decimal n)) word (decimal n)).1
      (inl (record {
        front = front;
        back = 32 ∷ decimal n;
        whole = refl;
        first = no_colon front none;
        key_is = trim;
        value_is = record {
          before = 32 ∷ [];
          following = [];
          whole = ap (λ t. 32 ∷ t) (sym (append-nil (decimal n)));
          blank_before = refl;
          blank_after = refl;
          begins = word_begins (decimal n) (decimal_word n small);
          ends = last_solid None (decimal n) tt (decimal_word n small).1;
        };
      }))

decimal_words : (n : ℕ) → n < 2 ^ 64 → words_of (decimal n) ≡ map signed_decimal (pos n ∷ [])
decimal_words n small =
    ap words_of (sym (append-nil (decimal n))) ∙ words_of-front (decimal n) [] (decimal_word n small) tt ∙ ap (λ ws. decimal n ∷ ws) words_nil

dimension_parts : (n : ℕ) → n < 2 ^ 64 → (key_text (key_line heading.Dimension n) ≡ codes "DIMENSION") × (value_text (key_line heading.Dimension n) ≡ decimal n)
unfolding heading_text
dimension_parts n small =
    keyed_parts (codes "DIMENSION ") (codes "DIMENSION") n small refl (record { before = []; following = 32 ∷ []; whole = refl; blank_before = refl; blank_after = refl; begins = refl; ends = refl })

capacity_parts : (n : ℕ) → n < 2 ^ 64 → (key_text (key_line heading.Capacity n) ≡ codes "CAPACITY") × (value_text (key_line heading.Capacity n) ≡ decimal n)
unfolding heading_text
capacity_parts n small =
    keyed_parts (codes "CAPACITY ") (codes "CAPACITY") n small refl (record { before = []; following = 32 ∷ []; whole = refl; blank_before = refl; blank_after = refl; begins = refl; ends = refl })

module _ (at n : ℕ) (small : n < 2 ^ 64) where
  abbrev pub dimension_row : Row
  dimension_row = record { line = at; text = key_line heading.Dimension n }

  abbrev pub capacity_row : Row
  capacity_row = record { line = at; text = key_line heading.Capacity n }

  pub dimension_key : key_of dimension_row ≡ key.Dimension
  unfolding key_of
  dimension_key = ap (λ k. key_from k (trimmed (key_line heading.Dimension n))) (dimension_parts n small).0

  pub capacity_key : key_of capacity_row ≡ key.Capacity
  unfolding key_of
  capacity_key = ap (λ k. key_from k (trimmed (key_line heading.Capacity n))) (capacity_parts n small).0

  pub dimension_words : value_words dimension_row ≡ map signed_decimal (pos n ∷ [])
  unfolding value_of
  dimension_words = ap words_of (dimension_parts n small).1 ∙ decimal_words n small

  pub capacity_words : value_words capacity_row ≡ map signed_decimal (pos n ∷ [])
  unfolding value_of
  capacity_words = ap words_of (capacity_parts n small).1 ∙ decimal_words n small

-- the number in the line of a key
pub number_read : (row : Row) (n : ℕ) → n < 2 ^ 64 → value_words row ≡ map signed_decimal (pos n ∷ []) → unsigned_abs (value_at (value_words row) 0) ≡ n
number_read row n small is = ap (λ ws. unsigned_abs (value_at ws 0)) is ∙ ap unsigned_abs (value_read (pos n ∷ []) 0 (small, tt))

pub nodes_read : (row : Row) (n : ℕ) → n < 2 ^ 64 → value_words row ≡ map signed_decimal (pos n ∷ []) → nodes_in_key row key.Dimension ≡ Some n
nodes_read row n small is = ap (λ ws. option_map unsigned_abs (field ws 0)) is ∙ ap (option_map unsigned_abs) (field_read (pos n ∷ []) 0 (small, tt))

-- ---- lines that are the same in each text
module _ (at : ℕ) where
  abbrev pub name_row : Row
  name_row = record { line = at; text = heading_text heading.Name }

  abbrev pub type_row : Row
  type_row = record { line = at; text = heading_text heading.ProblemType }

  abbrev pub weights_row : Row
  weights_row = record { line = at; text = heading_text heading.Weights }

  abbrev pub coordinates_row : Row
  coordinates_row = record { line = at; text = heading_text heading.Coordinates }

  abbrev pub demands_row : Row
  demands_row = record { line = at; text = heading_text heading.Demands }

  abbrev pub depots_row : Row
  depots_row = record { line = at; text = heading_text heading.Depots }

  abbrev pub end_row : Row
  end_row = record { line = at; text = heading_text heading.End }

  pub name_key : key_of name_row ≡ key.Ignored
  unfolding key_of heading_text
  name_key = refl

  pub type_key : key_of type_row ≡ key.ProblemType
  unfolding key_of heading_text
  type_key = refl

  pub weights_key : key_of weights_row ≡ key.WeightType
  unfolding key_of heading_text
  weights_key = refl

  pub coordinates_key : key_of coordinates_row ≡ key.Coordinates
  unfolding key_of heading_text
  coordinates_key = refl

  pub demands_key : key_of demands_row ≡ key.Demands
  unfolding key_of heading_text
  demands_key = refl

  pub depots_key : key_of depots_row ≡ key.Depots
  unfolding key_of heading_text
  depots_key = refl

  pub end_key : key_of end_row ≡ key.End
  unfolding key_of heading_text
  end_key = refl

  pub type_spelled : str_eq_ignore_ascii_case (value_of type_row) (codes "CVRP") ≡ true
  unfolding value_of heading_text
  type_spelled = refl

  pub weights_spelled : str_eq_ignore_ascii_case (value_of weights_row) (codes "EUC_2D") ≡ true
  unfolding value_of heading_text
  weights_spelled = refl

-- ---- faults
pub key_none : (before : List Placed) (row : Row) (k : its.Key) → key_of row ≡ k
    → HasNoKind (key_fault (any_key key.Dimension before) (any_key k before) (value_of row) k) → HasNoKind (place_fault One before row Outside)
key_none before row k is none kind = subst (λ x. key_fault (any_key key.Dimension before) (any_key x before) (value_of row) x kind ≡ false) (sym is) (none kind)

pub dimension_none : (stands : Bool) (words : List (List ℕ)) (n : ℕ) → n < 2 ^ 64 → words ≡ map signed_decimal (pos n ∷ []) → stands ≡ false → 2 ≤ n
    → n ≤ 40001 → HasNoKind (dimension_fault stands words)
dimension_none stands words n small is alone low high kind = ap (λ ws. dimension_fault stands ws kind) is ∙ by kind
  where
    by : (k : ReadFaultKind) → dimension_fault stands (map signed_decimal (pos n ∷ [])) k ≡ false
    by FieldCount = refl
    by BadNumber = all_numbers (pos n ∷ []) (small, tt)
    by TooManyStops = ap (passes_test _) (field_read (pos n ∷ []) 0 (small, tt)) ∙ le-ltb 40001 n high
    by Range = ap (passes_test _) (field_read (pos n ∷ []) 0 (small, tt)) ∙ le-ltb n 2 low
    by NodeRepeated = alone
    by _ = refl

pub capacity_none : (stands : Bool) (words : List (List ℕ)) (n : ℕ) → n < 2 ^ 64 → words ≡ map signed_decimal (pos n ∷ []) → stands ≡ false → n ≤ 1000000 → HasNoKind (capacity_fault stands words)
capacity_none stands words n small is alone high kind = ap (λ ws. capacity_fault stands ws kind) is ∙ by kind
  where
    by : (k : ReadFaultKind) → capacity_fault stands (map signed_decimal (pos n ∷ [])) k ≡ false
    by FieldCount = refl
    by BadNumber = all_numbers (pos n ∷ []) (small, tt)
    by Range = ap (passes_test _) (field_read (pos n ∷ []) 0 (small, tt)) ∙ or_from _ _ (le-ltb n 0 (omega arith)) (le-ltb 1000000 n high)
    by NodeRepeated = alone
    by _ = refl

pub spelling_none : (word value : List ℕ) (stands : Bool) → str_eq_ignore_ascii_case value word ≡ true → stands ≡ false → HasNoKind (spelling_fault word stands value)
spelling_none word value stands same alone Unsupported = ap not same
spelling_none word value stands same alone NodeRepeated = alone
spelling_none word value stands same alone _ = refl

pub opening_none : (announced stands : Bool) → announced ≡ true → stands ≡ false → HasNoKind (opening_fault announced stands)
opening_none announced stands said alone MissingKey = ap not said
opening_none announced stands said alone NodeRepeated = alone
opening_none announced stands said alone _ = refl

pub repeated_none : (stands : Bool) → stands ≡ false → HasNoKind (repeated_fault stands)
repeated_none stands alone NodeRepeated = alone
repeated_none stands alone _ = refl

-- the two lines of the list of depots
one_small : AreSmall (pos 1 ∷ [])
one_small = (omega arith, tt)

end_small : AreSmall (negsuc 0 ∷ [])
end_small = (omega arith, tt)

pub one_words : words_of (numbers_text (pos 1 ∷ [])) ≡ map signed_decimal (pos 1 ∷ [])
one_words = words_read (pos 1 ∷ []) one_small

pub end_words : words_of (numbers_text (negsuc 0 ∷ [])) ≡ map signed_decimal (negsuc 0 ∷ [])
end_words = words_read (negsuc 0 ∷ []) end_small

pub one_none : HasNoKind (depot_fault 0 (words_of (numbers_text (pos 1 ∷ []))))
one_none kind = ap (λ ws. depot_fault 0 ws kind) one_words ∙ by kind
  where
    by : (k : ReadFaultKind) → depot_fault 0 (map signed_decimal (pos 1 ∷ [])) k ≡ false
    by FieldCount = refl
    by BadNumber = all_numbers (pos 1 ∷ []) one_small
    by DepotNotFirst = rw (field_read (pos 1 ∷ []) 0 one_small) refl
    by _ = refl

pub end_none : HasNoKind (depot_fault 1 (words_of (numbers_text (negsuc 0 ∷ []))))
end_none kind = ap (λ ws. depot_fault 1 ws kind) end_words ∙ by kind
  where
    by : (k : ReadFaultKind) → depot_fault 1 (map signed_decimal (negsuc 0 ∷ [])) k ≡ false
    by FieldCount = refl
    by BadNumber = all_numbers (negsuc 0 ∷ []) end_small
    by DepotNotFirst = rw (field_read (negsuc 0 ∷ []) 0 end_small) refl
    by _ = refl

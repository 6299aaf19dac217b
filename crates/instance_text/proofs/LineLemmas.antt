-- Lines of numbers are read as these numbers, and a text of lines as these lines.
use Rattle.std.proofs.Common.{◌≡◌, ℕ, zero, suc, ◌+◌, ◌-◌, ◌≤◌, ◌<◌, ◌^◌, Bool, true, false, eqb, List, [], ◌∷◌, ◌++◌, length, map, get_or, slice_get, Option, Some, ℤ, pos, negsuc, refl}
use Rattle.std.proofs.Common.{sym, ap, ◌∙◌, arith, append_assoc}
use Rattle.std.specs.Prelude.{is_none, nat_le, unsigned_abs, unwrap_or}
use Rattle.std.specs.Char.{is_ascii_digit}
use Rattle.std.specs.Fmt.{decimal, signed_decimal}
use Rattle.std.specs.List.{AllByRecursion, flat_map, list_all}
use Rattle.std.specs.Str.Lines.{strip_carriage_return}
use Rattle.std.specs.Str.Parse.{digits_value}
use Rattle.std.proofs.lemmas.Bool.{and_from, and_parts, false≢true, le-leb, leb-true, ne_eqb, or_from}
use Rattle.std.proofs.lemmas.List.{get_or_default}
use Rattle.std.proofs.lemmas.List.Sums.{AllPass-from_list_all}
use Rattle.text_lines.specs.Lines.{HasNoLineFeed, lines_of}
use Rattle.text_lines.specs.Numbers.{is_digits, number_of, signed}
use Rattle.text_lines.specs.Words.{EndsWord, IsWord, is_blank, is_blank_line, words_of}
use Rattle.text_lines.proofs.LawProofs.{are_read, end_at_feeds}
use Rattle.text_lines.proofs.NumberLemmas.{digit_bounds, digits_of-yes, number_of-signed}
use Rattle.text_lines.proofs.PieceLemmas.{lines_nil}
use Rattle.text_lines.proofs.WordLemmas.{words_blank, words_nil, words_of-front}
use Rattle.instance_read.specs.Fields.{any_beyond, field, has_no_number, is_beyond, is_no_number, passes_test, value_at}
use Rattle.instance_read.specs.Rows.{Row, rows_from}
use Rattle.instance_read.proofs.RowLemmas.{rows_nil, rows_read}
use Rattle.instance_text.specs.Texts.{lines_text, numbers_text}

-- ---- bytes that do not end a line
unfoldable pub printable : ℕ → Bool
printable b = nat_le 32 b

abbrev pub Printable : List ℕ → Type 0
Printable xs = list_all printable xs ≡ true

pub printable-append : (xs ys : List ℕ) → Printable xs → Printable ys → Printable (xs ++ ys)
printable-append [] ys p q = q
printable-append (x ∷ xs) ys p q = let parts = and_parts (printable x) (list_all printable xs) p in and_from (printable x) (list_all printable (xs ++ ys)) parts.0 (printable-append xs ys parts.1 q)

pub printable-cons : (b : ℕ) (xs : List ℕ) → 32 ≤ b → Printable xs → Printable (b ∷ xs)
unfolding printable
printable-cons b xs h p = and_from (printable b) (list_all printable xs) (le-leb 32 b h) p

digits_printable : (xs : List ℕ) → list_all is_ascii_digit xs ≡ true → Printable xs
digits_printable [] is = refl
digits_printable (x ∷ xs) is =
    let parts = and_parts (is_ascii_digit x) (list_all is_ascii_digit xs) is in
    printable-cons x xs (omega (arith, (digit_bounds x parts.0).0)) (digits_printable xs parts.1)

printable_at : (xs : List ℕ) (j b : ℕ) → Printable xs → j < length xs → get_or xs j 0 ≡ b → 32 ≤ b
unfolding printable
printable_at xs j b p h is = omega (arith, leb-true 32 (get_or xs j 0) (AllPass-from_list_all printable xs p j 0 h), is)

no_feed : (line : List ℕ) → Printable line → HasNoLineFeed line
no_feed line p (j, h, here) = absurd (omega (arith, printable_at line j 10 p h (get_or_default line j 0 10 h ∙ here)))

whole_line : (line : List ℕ) → Printable line → strip_carriage_return line ≡ line
whole_line [] p = refl
whole_line (x ∷ xs) p =
    let last = length (x ∷ xs) - 1 in
    let no_return : eqb (get_or (x ∷ xs) last 0) 13 ≡ false = ne_eqb (get_or (x ∷ xs) last 0) 13 (λ e. absurd (omega (arith, printable_at (x ∷ xs) last 13 p (omega arith) e))) in
    rw no_return refl

-- ---- the lines of a text
pub lines_read : (ls : List (List ℕ)) → AllByRecursion Printable ls → lines_of (lines_text ls) ≡ ls
lines_read [] all = lines_nil
lines_read (l ∷ ls) all =
    ap lines_of (append_assoc l (10 ∷ []) (lines_text ls))
    ∙ end_at_feeds l (lines_text ls) (no_feed l all.0)
    ∙ ap (λ x. x ∷ lines_of (lines_text ls)) (whole_line l all.0)
    ∙ ap (λ xs. l ∷ xs) (lines_read ls all.1)

-- the lines that are read, with their numbers
abbrev pub numbered : ℕ → List (List ℕ) → List Row
numbered n [] = []
numbered n (l ∷ ls) = record { line = n; text = l } ∷ numbered (n + 1) ls

abbrev pub IsShown : List ℕ → Type 0
IsShown line = is_blank_line line ≡ false

pub rows_numbered : (n : ℕ) (ls : List (List ℕ)) → AllByRecursion IsShown ls → rows_from n ls ≡ numbered n ls
rows_numbered n [] all = rows_nil n
rows_numbered n (l ∷ ls) all = rows_read n l ls all.0 ∙ ap (λ rs. record { line = n; text = l } ∷ rs) (rows_numbered (n + 1) ls all.1)

-- ---- one number
abbrev pub IsSmall : ℤ → Type 0
IsSmall z = unsigned_abs z < 2 ^ 64

abbrev pub AreSmall : List ℤ → Type 0
AreSmall zs = AllByRecursion IsSmall zs

some_same : {X : Type 0} {x y : X} → Some x ≡ Some y → x ≡ y
some_same h = cc

digit_not_blank : (b : ℕ) → is_ascii_digit b ≡ true → is_blank b ≡ false
digit_not_blank b is =
    let low = (digit_bounds b is).0 in
    or_from (eqb b 32) (eqb b 9) (ne_eqb b 32 (λ e. absurd (omega (arith, low, e)))) (ne_eqb b 9 (λ e. absurd (omega (arith, low, e))))

digits_apart : (ds : List ℕ) → list_all is_ascii_digit ds ≡ true → AllByRecursion (λ b. is_blank b ≡ false) ds
digits_apart [] is = tt
digits_apart (d ∷ ds) is = let parts = and_parts (is_ascii_digit d) (list_all is_ascii_digit ds) is in (digit_not_blank d parts.0, digits_apart ds parts.1)

all_digits : (ds : List ℕ) → is_digits ds ≡ true → (0 < length ds) × (list_all is_ascii_digit ds ≡ true)
unfolding is_digits
all_digits [] is = absurd (false≢true is)
all_digits (d ∷ ds) is = (omega arith, is)

pub decimal_printable : (n : ℕ) → n < 2 ^ 64 → Printable (decimal n)
decimal_printable n small = digits_printable (decimal n) (all_digits (decimal n) (are_read n small).0).1

pub decimal_word : (n : ℕ) → n < 2 ^ 64 → IsWord (decimal n)
decimal_word n small = let all = all_digits (decimal n) (are_read n small).0 in (all.0, digits_apart (decimal n) all.1)

decimal_value : (n : ℕ) → n < 2 ^ 64 → digits_value 10 (decimal n) ≡ n
decimal_value n small = let r = are_read n small in some_same (sym (digits_of-yes (decimal n) r.0) ∙ r.1)

signed_word : (z : ℤ) → IsSmall z → IsWord (signed_decimal z)
signed_word (pos n) small = decimal_word n small
signed_word (negsuc n) small = (omega arith, (refl, (decimal_word (suc n) small).1))

signed_printable : (z : ℤ) → IsSmall z → Printable (signed_decimal z)
signed_printable (pos n) small = decimal_printable n small
signed_printable (negsuc n) small = printable-cons 45 (decimal (suc n)) (omega arith) (decimal_printable (suc n) small)

signed_read : (z : ℤ) → IsSmall z → number_of (signed_decimal z) ≡ Some z
signed_read (pos n) small = (are_read n small).2
signed_read (negsuc n) small =
    number_of-signed true (decimal (suc n)) (are_read (suc n) small).0 ∙ ap (λ v. Some (signed true v)) (decimal_value (suc n) small)

-- ---- a line of numbers
abbrev more_text : List ℤ → List ℕ
more_text zs = flat_map (λ n. 32 ∷ signed_decimal n) zs

more_ends : (zs : List ℤ) → EndsWord (more_text zs)
more_ends [] = tt
more_ends (z ∷ zs) = refl

more_words : (zs : List ℤ) → AreSmall zs → words_of (more_text zs) ≡ map signed_decimal zs
more_words [] small = words_nil
more_words (z ∷ zs) small =
    words_blank 32 (signed_decimal z ++ more_text zs) refl
    ∙ words_of-front (signed_decimal z) (more_text zs) (signed_word z small.0) (more_ends zs)
    ∙ ap (λ ws. signed_decimal z ∷ ws) (more_words zs small.1)

pub words_read : (zs : List ℤ) → AreSmall zs → words_of (numbers_text zs) ≡ map signed_decimal zs
unfolding numbers_text
words_read [] small = words_nil
words_read (z ∷ zs) small =
    words_of-front (signed_decimal z) (more_text zs) (signed_word z small.0) (more_ends zs)
    ∙ ap (λ ws. signed_decimal z ∷ ws) (more_words zs small.1)

more_printable : (zs : List ℤ) → AreSmall zs → Printable (more_text zs)
more_printable [] small = refl
more_printable (z ∷ zs) small =
    printable-cons 32 (signed_decimal z ++ more_text zs) (omega arith)
    (printable-append (signed_decimal z) (more_text zs) (signed_printable z small.0) (more_printable zs small.1))

pub numbers_printable : (zs : List ℤ) → AreSmall zs → Printable (numbers_text zs)
unfolding numbers_text
numbers_printable [] small = refl
numbers_printable (z ∷ zs) small = printable-append (signed_decimal z) (more_text zs) (signed_printable z small.0) (more_printable zs small.1)

word_shown : (word rest : List ℕ) → IsWord word → IsShown (word ++ rest)
word_shown [] rest is = absurd (omega (arith, is.0))
word_shown (b ∷ word) rest is = rw is.1.0 refl

pub numbers_shown : (z : ℤ) (zs : List ℤ) → AreSmall (z ∷ zs) → IsShown (numbers_text (z ∷ zs))
unfolding numbers_text
numbers_shown z zs small = word_shown (signed_decimal z) (more_text zs) (signed_word z small.0)

-- ---- the fields of a line
pub field_read : (zs : List ℤ) (k : ℕ) → AreSmall zs → field (map signed_decimal zs) k ≡ slice_get zs k
field_read [] k small = refl
field_read (z ∷ zs) zero small = signed_read z small.0
field_read (z ∷ zs) (suc k) small = field_read zs k small.1

pub value_read : (zs : List ℤ) (k : ℕ) → AreSmall zs → value_at (map signed_decimal zs) k ≡ unwrap_or (slice_get zs k) (pos 0)
value_read zs k small = ap (λ o. unwrap_or o (pos 0)) (field_read zs k small)

pub all_numbers : (zs : List ℤ) → AreSmall zs → has_no_number (map signed_decimal zs) ≡ false
all_numbers [] small = refl
all_numbers (z ∷ zs) small =
    or_from (is_no_number (signed_decimal z)) (has_no_number (map signed_decimal zs)) (ap (λ (o : Option ℤ). is_none o) (signed_read z small.0)) (all_numbers zs small.1)

-- each number is within the limits for its place
abbrev pub AreWithin : List (ℤ × ℤ) → List ℤ → Type 0
AreWithin (l ∷ ls) (z ∷ zs) = (is_beyond l z ≡ false) × AreWithin ls zs
AreWithin (l ∷ ls) [] = Unit {0}
AreWithin [] zs = Unit {0}

pub none_beyond : (ls : List (ℤ × ℤ)) (zs : List ℤ) → AreSmall zs → AreWithin ls zs → any_beyond ls (map signed_decimal zs) ≡ false
none_beyond [] zs small within = refl
none_beyond (l ∷ ls) [] small within = refl
none_beyond (l ∷ ls) (z ∷ zs) small within =
    or_from (passes_test (is_beyond l) (number_of (signed_decimal z))) (any_beyond ls (map signed_decimal zs))
    (ap (passes_test (is_beyond l)) (signed_read z small.0) ∙ within.0) (none_beyond ls zs small.1 within.1)

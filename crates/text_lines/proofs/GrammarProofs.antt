-- The value of a number from its parts, and the parts from the number.
use Rattle.std.proofs.Common.{◌≡◌, ℕ, zero, suc, true, false, inl, inr, List, [], ◌∷◌, ◌++◌, length, take, drop, Option, Some, None, ℤ, refl, sym, ap, ◌∙◌, arith, eqb, option_map}
use Rattle.std.specs.Prelude.{◌&&◌, nat_lt, replicate}
use Rattle.std.specs.Char.{is_ascii_digit}
use Rattle.std.specs.List.{list_all, prefix_len}
use Rattle.std.specs.Str.Parse.{digits_value, starts_with_minus, without_leading_sign}
use Rattle.std.proofs.lemmas.Bool.{and_parts, eqb-true, false≢true, ltb-true, ne_eqb}
use Rattle.std.proofs.lemmas.Bool.Decides.{eqb_tells}
use Rattle.std.proofs.lemmas.List.{drop_at, length-take, take-append-drop, take_at}
use Rattle.std.proofs.lemmas.List.Sums.{prefix_len-le-length}
use Rattle.std.proofs.lemmas.Option.{cond_some}
use Rattle.text_lines.specs.Numbers.{NumbersFollowGrammar, IsNumber, IsSign, IsZeroFraction, is_digits, is_zero, is_zero_fraction, number_of, signed, whole_of}
use Rattle.text_lines.proofs.NumberLemmas.{digit_bounds, digits_some, is_digits-front, whole_of-some}

mapped_some : {X Y : Type 0} (f : X → Y) (o : Option X) (y : Y) → option_map f o ≡ Some y → (x : X) × (o ≡ Some x) × (f x ≡ y)
mapped_some f None y is = absurd (cc)
mapped_some f (Some x) y is = (x, refl, cc)

-- ---- zeros after a point
all_zeros : (zeros : List ℕ) → list_all is_zero zeros ≡ true → zeros ≡ replicate (length zeros) 48
all_zeros [] is = refl
all_zeros (b ∷ zeros) is =
    let both = and_parts (is_zero b) (list_all is_zero zeros) is in
    ap (λ c. c ∷ zeros) (eqb-true b 48 both.0) ∙ ap (λ more. 48 ∷ more) (all_zeros zeros both.1)

zeros_all : (count : ℕ) → list_all is_zero (replicate count 48) ≡ true
zeros_all zero = refl
zeros_all (suc count) = zeros_all count

fraction_from_test : (fraction : List ℕ) → is_zero_fraction fraction ≡ true → IsZeroFraction fraction
fraction_from_test [] is = inl refl
fraction_from_test (b ∷ zeros) is =
    let both = and_parts (eqb b 46) (list_all is_zero zeros) is in
    inr (length zeros, ap (λ c. c ∷ zeros) (eqb-true b 46 both.0) ∙ ap (λ more. 46 ∷ more) (all_zeros zeros both.1))

test_from_fraction : (fraction : List ℕ) → IsZeroFraction fraction → is_zero_fraction fraction ≡ true
test_from_fraction fraction (inl none) = ap is_zero_fraction none
test_from_fraction fraction (inr (count, is)) = ap is_zero_fraction is ∙ zeros_all count

-- ---- a word's sign
sign_of : (word : List ℕ) → (sign : List ℕ) × (word ≡ sign ++ without_leading_sign word) × IsSign sign × (starts_with_minus sign ≡ starts_with_minus word)
sign_of [] = ([], refl, inl refl, refl)
sign_of (b ∷ bs) =
    elim (eqb_tells b 45) [
      | inl minus ↦ (45 ∷ [], rw minus.0 (ap (λ c. c ∷ bs) minus.1), inr (inr refl), rw minus.0 refl)
      | inr other ↦ elim (eqb_tells b 43) [
        | inl plus ↦ (43 ∷ [], rw (other.0, plus.0) (ap (λ c. c ∷ bs) plus.1), inr (inl refl), rw other.0 refl)
        | inr neither ↦ ([], rw (other.0, neither.0) refl, inl refl, rw other.0 refl)
      ]
    ]

number_from_word : (word : List ℕ) (number : ℤ) → number_of word ≡ Some number → IsNumber word number
unfolding number_of whole_of
number_from_word word number is =
    let body = without_leading_sign word in
    let len = prefix_len is_ascii_digit body in
    let found = mapped_some (signed (starts_with_minus word)) (whole_of body) number is in
    let both = cond_some (nat_lt 0 len && is_zero_fraction (drop len body)) (digits_value 10 (take len body)) found.0 found.1 in
    let tests = and_parts (nat_lt 0 len) (is_zero_fraction (drop len body)) both.0 in
    let sign = sign_of word in
    record {
      sign = sign.0;
      digits = take len body;
      fraction = drop len body;
      whole = sign.1 ∙ ap (λ more. sign.0 ++ more) (sym (take-append-drop len body));
      is_sign = sign.2;
      are_digits = is_digits-front body len refl
          (λ none. omega (arith, none, length-take len body, ltb-true 0 len tests.0, prefix_len-le-length is_ascii_digit body));
      is_fraction = fraction_from_test (drop len body) tests.1;
      value = sym found.2 ∙ ap (signed (starts_with_minus word)) (sym both.1) ∙ ap (λ minus. signed minus (digits_value 10 (take len body))) (sym sign.3);
    }

-- ---- digits before a fraction
no_digit : (fraction : List ℕ) → IsZeroFraction fraction → prefix_len is_ascii_digit fraction ≡ 0
no_digit fraction (inl none) = ap (prefix_len is_ascii_digit) none
no_digit fraction (inr (count, is)) = ap (prefix_len is_ascii_digit) is

digits_front : (digits fraction : List ℕ) → list_all is_ascii_digit digits ≡ true → IsZeroFraction fraction
    → prefix_len is_ascii_digit (digits ++ fraction) ≡ length digits
digits_front [] fraction all is = no_digit fraction is
digits_front (d ∷ digits) fraction all is =
    let both = and_parts (is_ascii_digit d) (list_all is_ascii_digit digits) all in
    rw (both.0, digits_front digits fraction both.1 is) (omega arith)

all_digits : (digits : List ℕ) → is_digits digits ≡ true → list_all is_ascii_digit digits ≡ true
unfolding is_digits
all_digits [] is = absurd (false≢true is)
all_digits (d ∷ digits) is = is

whole_from_parts : (digits fraction : List ℕ) → is_digits digits ≡ true → IsZeroFraction fraction
    → whole_of (digits ++ fraction) ≡ Some (digits_value 10 digits)
whole_from_parts digits fraction are is =
    let body = digits ++ fraction in
    let len : prefix_len is_ascii_digit body ≡ length digits = digits_front digits fraction (all_digits digits are) is in
    whole_of-some body (omega (arith, len, digits_some digits are))
    (ap (λ k. is_zero_fraction (drop k body)) len ∙ ap is_zero_fraction (drop_at digits fraction (length digits) refl) ∙ test_from_fraction fraction is)
    ∙ ap (λ k. Some (digits_value 10 (take k body))) len
    ∙ ap (λ ds. Some (digits_value 10 ds)) (take_at digits fraction (length digits) refl)

-- digits do not begin with a sign
bare : (digits rest : List ℕ) → is_digits digits ≡ true
    → (starts_with_minus (digits ++ rest) ≡ false) × (without_leading_sign (digits ++ rest) ≡ digits ++ rest)
unfolding is_digits
bare [] rest are = absurd (false≢true are)
bare (d ∷ digits) rest are =
    let range = digit_bounds d (and_parts (is_ascii_digit d) (list_all is_ascii_digit digits) are).0 in
    let minus : eqb d 45 ≡ false = ne_eqb d 45 (λ is. omega (arith, is, range.0)) in
    let plus : eqb d 43 ≡ false = ne_eqb d 43 (λ is. omega (arith, is, range.0)) in
    (minus, rw (minus, plus) refl)

number_from_sign : (sign digits rest : List ℕ) → IsSign sign → is_digits digits ≡ true
    → number_of (sign ++ (digits ++ rest)) ≡ option_map (signed (starts_with_minus sign)) (whole_of (digits ++ rest))
unfolding number_of
number_from_sign sign digits rest (inl none) are =
    let is = bare digits rest are in
    rw none
    (ap (λ minus. option_map (signed minus) (whole_of (without_leading_sign (digits ++ rest)))) is.0
    ∙ ap (λ body. option_map (signed false) (whole_of body)) is.1)
number_from_sign sign digits rest (inr (inl plus)) are = rw plus refl
number_from_sign sign digits rest (inr (inr minus)) are = rw minus refl

word_from_number : (word : List ℕ) (number : ℤ) → IsNumber word number → number_of word ≡ Some number
word_from_number word number is =
    ap number_of is.whole
    ∙ number_from_sign is.sign is.digits is.fraction is.is_sign is.are_digits
    ∙ ap (option_map (signed (starts_with_minus is.sign))) (whole_from_parts is.digits is.fraction is.are_digits is.is_fraction)
    ∙ ap (λ z. Some z) (sym is.value)

pub are_numbers : NumbersFollowGrammar
are_numbers word number = (number_from_word word number, word_from_number word number)

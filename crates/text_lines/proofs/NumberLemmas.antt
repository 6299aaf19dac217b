-- Digits, their values, and the end of a number.
use Rattle.std.proofs.Common.{
  ◌≡◌,
  ℕ,
  ◌-◌,
  ◌<◌,
  ◌≤◌,
  Bool,
  true,
  false,
  ◌⊎◌,
  inl,
  inr,
  ⊎_elim,
  List,
  [],
  ◌∷◌,
  ◌++◌,
  length,
  map,
  get_or,
  take,
  drop,
  Option,
  Some,
  None,
  refl,
  sym,
  ap,
  subst,
  ◌∙◌,
  arith,
  eqb,
  ℤ,
  SomeIff,
  cond,
  pos,
  negsuc,
  take_all,
  eqb-true,
  option_map,
  int_le,
}
use Rattle.std.specs.Prelude.{◌≤ℤ◌, ◌<ℤ◌, ◌&&◌, nat_lt, nat_le, ◌==◌, ◌^◌, Result, Ok, Err}
use Rattle.std.specs.Int.RustNames.{unsigned_abs}
use Rattle.std.specs.Result.{OkIff, result_ok}
use Rattle.std.specs.Char.{is_ascii_digit, digit_value}
use Rattle.std.specs.Int.Digits.{number_from_digits, number_from_digits_after}
use Rattle.std.specs.List.{AllPass, list_all, prefix_len}
use Rattle.std.specs.Str.Parse.{digits_value, starts_with_minus, without_leading_sign, without_leading_plus}
use Rattle.std.proofs.lemmas.Bool.{and_parts, and_from, and_left, and_right, leb-true, lt-ltb, le-ltb, eq-eqb, ne_eqb, cond-true, cond-false, cases_Bool, false≢true, cases_lt}
use Rattle.std.proofs.lemmas.Bool.Decides.{nat_tests}
use Rattle.std.proofs.lemmas.Int.Digits.{digits_value_is, number_after_append, number_after_ge}
use Rattle.std.proofs.lemmas.List.{map-append, take-append-drop, get_or-take, length-take, drop_all, take-append-le}
use Rattle.std.proofs.lemmas.List.Sums.{AllPass-from_list_all, list_all-from_AllPass, prefix_len_passes, prefix_len_is, prefix_len-le-length}
use Rattle.std.proofs.lemmas.Int.{ints}
use Rattle.text_lines.specs.Numbers.{below, magnitude, is_digits, digits_of, is_zero_fraction, whole_of, number_of, signed, without_minus, within}

pub digit_bounds : (c : ℕ) → is_ascii_digit c ≡ true → (48 ≤ c) × (c ≤ 57)
digit_bounds c e = let both = and_parts (nat_le 48 c) (nat_le c 57) e in (leb-true 48 c both.0, leb-true c 57 both.1)

pub digit_value-is : (c : ℕ) → is_ascii_digit c ≡ true → digit_value c ≡ c - 48
digit_value-is c e = let bounds = digit_bounds c e in grind (arith, nat_tests)

pub digit_at : (ds : List ℕ) → is_digits ds ≡ true → (i : ℕ) → i < length ds → is_ascii_digit (get_or ds i 0) ≡ true
unfolding is_digits
digit_at [] e i l = absurd (omega arith)
digit_at (b ∷ bs) e i l = AllPass-from_list_all is_ascii_digit (b ∷ bs) e i 0 l

-- appending digits does not make the number smaller
value_front : (xs ys : List ℕ) → digits_value 10 xs ≤ digits_value 10 (xs ++ ys)
value_front xs ys =
    let n = number_from_digits 10 (map digit_value xs) in
    let whole : digits_value 10 (xs ++ ys) ≡ number_from_digits_after 10 n (map digit_value ys) =
    digits_value_is 10 (xs ++ ys) ∙ ap (number_from_digits 10) (map-append digit_value xs ys)
    ∙ number_after_append 10 0 (map digit_value xs) (map digit_value ys) in
    omega (arith, digits_value_is 10 xs, whole, number_after_ge 10 n (map digit_value ys) (omega arith))

pub value-take-le : (ds : List ℕ) (i : ℕ) → digits_value 10 (take i ds) ≤ digits_value 10 ds
value-take-le ds i =
    let P : List ℕ → Type 0 = λ xs. digits_value 10 (take i ds) ≤ digits_value 10 xs in
    subst P (take-append-drop i ds) (value_front (take i ds) (drop i ds))

-- all elements pass exactly if the longest prefix of elements that pass is the whole list
pub list_all-prefix_len : (p : ℕ → Bool) (xs : List ℕ) → list_all p xs ≡ (prefix_len p xs == length xs)
list_all-prefix_len p xs =
    ⊎_elim
    (λ yes. yes ∙ sym (eq-eqb (prefix_len p xs) (length xs)
    (prefix_len_is p xs (length xs) 0 (omega arith) (λ k h. AllPass-from_list_all p xs yes k 0 h) (λ h. absurd (omega arith)))))
    (λ no. no ∙ sym (ne_eqb (prefix_len p xs) (length xs) (λ e.
    let pass : AllPass p xs = λ k d h. prefix_len_passes p xs k d (omega (arith, e)) in
    false≢true (sym no ∙ list_all-from_AllPass p xs pass))))
    (cases_Bool (list_all p xs))

pub is_digits-empty : (word : List ℕ) → length word ≡ 0 → is_digits word ≡ false
unfolding is_digits
is_digits-empty [] e = refl
is_digits-empty (b ∷ bs) e = absurd (omega arith)

pub is_digits-all : (word : List ℕ) → (length word ≡ 0 → ⊥) → is_digits word ≡ list_all is_ascii_digit word
unfolding is_digits
is_digits-all [] e = absurd (e refl)
is_digits-all (b ∷ bs) e = refl

pub is_digits-len : (word : List ℕ) → (length word ≡ 0 → ⊥) → is_digits word ≡ (prefix_len is_ascii_digit word == length word)
is_digits-len word e = is_digits-all word e ∙ list_all-prefix_len is_ascii_digit word

-- a word that has another byte after its leading digits is not a word of digits
pub is_digits-short : (word : List ℕ) → prefix_len is_ascii_digit word < length word → is_digits word ≡ false
is_digits-short word less = is_digits-len word (λ e. omega (arith, e)) ∙ ne_eqb (prefix_len is_ascii_digit word) (length word) (λ e. omega (arith, e))

pub is_digits-none : (word : List ℕ) → prefix_len is_ascii_digit word ≡ 0 → is_digits word ≡ false
is_digits-none word none =
    ⊎_elim (λ some. is_digits-short word (omega (arith, none))) (λ empty. is_digits-empty word (omega arith)) (cases_lt 0 (length word))

pub is_digits-full : (word : List ℕ) → 0 < prefix_len is_ascii_digit word → length word ≤ prefix_len is_ascii_digit word → is_digits word ≡ true
is_digits-full word some all =
    let fits = prefix_len-le-length is_ascii_digit word in
    is_digits-len word (λ e. omega (arith, e)) ∙ eq-eqb (prefix_len is_ascii_digit word) (length word) (omega arith)

-- in the longest prefix of elements that pass, all elements pass
pub front_passes : (p : ℕ → Bool) (text : List ℕ) → list_all p (take (prefix_len p text) text) ≡ true
front_passes p text =
    let n = prefix_len p text in
    list_all-from_AllPass p (take n text) (λ k d h.
    let before : k < n = omega (arith, length-take n text) in
    rw get_or-take (prefix_len_passes p text k d before))

-- the leading digits, if there are any, are a word of digits
pub is_digits-front : (body : List ℕ) (n : ℕ) → n ≡ prefix_len is_ascii_digit body → (length (take n body) ≡ 0 → ⊥) → is_digits (take n body) ≡ true
is_digits-front body n same l =
    is_digits-all (take n body) l ∙ ap (λ k. list_all is_ascii_digit (take k body)) same ∙ front_passes is_ascii_digit body

pub whole_of-none : (body : List ℕ)
    → (nat_lt 0 (prefix_len is_ascii_digit body) ≡ false) ⊎ (is_zero_fraction (drop (prefix_len is_ascii_digit body) body) ≡ false) → whole_of body ≡ None
unfolding whole_of
whole_of-none body (inl e) = cond-false _ _ _ (and_left _ _ e)
whole_of-none body (inr e) = cond-false _ _ _ (and_right _ _ e)

pub whole_of-some : (body : List ℕ) → 0 < prefix_len is_ascii_digit body → is_zero_fraction (drop (prefix_len is_ascii_digit body) body) ≡ true
    → whole_of body ≡ Some (digits_value 10 (take (prefix_len is_ascii_digit body) body))
unfolding whole_of
whole_of-some body l e = cond-true _ _ _ (and_from _ _ (lt-ltb 0 (prefix_len is_ascii_digit body) l) e)

-- the parts before and after place n: the digits, and the rest
module _ (body front back : List ℕ) (n : ℕ) (len : n ≡ prefix_len is_ascii_digit body) (fronts : front ≡ take n body) (backs : back ≡ drop n body) where
  front_length : length front ≡ n
  front_length =
      let fits = prefix_len-le-length is_ascii_digit body in
      omega (arith, ap length fronts, length-take n body, len, fits)

  pub whole_none-empty : length front ≡ 0 → whole_of body ≡ None
  whole_none-empty e = whole_of-none body (inl (le-ltb 0 (prefix_len is_ascii_digit body) (omega (arith, front_length, len, e))))

  pub whole_none-fraction : is_zero_fraction back ≡ false → whole_of body ≡ None
  whole_none-fraction e = whole_of-none body (inr (ap (λ k. is_zero_fraction (drop k body)) (sym len) ∙ sym (ap is_zero_fraction backs) ∙ e))

  pub whole_some : (length front ≡ 0 → ⊥) → is_zero_fraction back ≡ true → whole_of body ≡ Some (digits_value 10 front)
  whole_some l e =
      whole_of-some body (omega (arith, front_length, len, l)) (ap (λ k. is_zero_fraction (drop k body)) (sym len) ∙ sym (ap is_zero_fraction backs) ∙ e)
      ∙ ap (λ ds. Some (digits_value 10 ds)) (ap (λ k. take k body) (sym len) ∙ sym fronts)

pub digits_of-yes : (word : List ℕ) → is_digits word ≡ true → digits_of word ≡ Some (digits_value 10 word)
unfolding digits_of
digits_of-yes word e = cond-true _ _ _ e

pub digits_of-no : (word : List ℕ) → is_digits word ≡ false → digits_of word ≡ None
unfolding digits_of
digits_of-no word e = cond-false _ _ _ e

-- a number below the limit, and one that is not below it
below-some : (limit n : ℕ) → n < limit → below limit (Some n) ≡ Some n
below-some limit n h = rw (lt-ltb n limit h) refl

pub below-none : (limit n : ℕ) → limit ≤ n → below limit (Some n) ≡ None
below-none limit n h = rw (le-ltb n limit h) refl

not_below : (n limit : ℕ) → (n < limit → ⊥) → limit ≤ n
not_below n limit never = ⊎_elim (λ (h : n < limit). absurd (never h)) (λ (h : limit ≤ n). h) (cases_lt n limit)

-- the values that `try_from` and `ok` return
pub below-from_OkIff : {E : Type 0} (v : ℕ) (o : Option ℕ) (r : Result ℕ E) → o ≡ result_ok r → OkIff r (v < 2 ^ 32) v → o ≡ below (2 ^ 32) (Some v)
below-from_OkIff v o (Ok x) is h = is ∙ (ap Some h.1 ∙ sym (below-some (2 ^ 32) v h.0))
below-from_OkIff v o (Err e) is h = is ∙ sym (below-none (2 ^ 32) v (not_below v (2 ^ 32) h))

-- a number that is checked to be in 0..limit - 1
pub below-from_SomeIff : (limit : ℕ) (z : ℤ) (r : Option ℕ) → SomeIff r ((pos 0 ≤ℤ z) × (z <ℤ pos limit)) (unsigned_abs z) → r ≡ below limit (magnitude z)
below-from_SomeIff limit (pos n) None never = sym (below-none limit n (not_below n limit (λ h. never (omega (arith, ints), omega (arith, ints)))))
below-from_SomeIff limit (pos n) (Some v) is = ap Some is.1 ∙ sym (below-some limit n (omega (arith, ints)))
below-from_SomeIff limit (negsuc n) None never = refl
below-from_SomeIff limit (negsuc n) (Some v) is = absurd (omega (arith, ints))

-- ---- words of digits
pub digits_some : (ds : List ℕ) → is_digits ds ≡ true → 0 < length ds
unfolding is_digits
digits_some [] e = absurd (false≢true e)
digits_some (d ∷ ds) e = omega arith

digits_front : (ds : List ℕ) → is_digits ds ≡ true → prefix_len is_ascii_digit ds ≡ length ds
digits_front ds e = prefix_len_is is_ascii_digit ds (length ds) 0 (omega arith) (digit_at ds e) (λ h. absurd (omega arith))

pub whole_of-digits : (ds : List ℕ) → is_digits ds ≡ true → whole_of ds ≡ Some (digits_value 10 ds)
whole_of-digits ds e =
    let n = prefix_len is_ascii_digit ds in
    whole_of-some ds (omega (arith, digits_front ds e, digits_some ds e)) (ap is_zero_fraction (drop_all n ds (omega (arith, digits_front ds e))))
    ∙ ap (λ xs. Some (digits_value 10 xs)) (take_all n ds (omega (arith, digits_front ds e)))

-- a word of digits parses as the number that the digits write
pub number_of-digits : (ds : List ℕ) → is_digits ds ≡ true → number_of ds ≡ Some (pos (digits_value 10 ds))
unfolding number_of
number_of-digits ds e =
    let range = digit_bounds (get_or ds 0 0) (digit_at ds e 0 (digits_some ds e)) in
    let minus : starts_with_minus ds ≡ false = ne_eqb (get_or ds 0 0) 45 (λ is. omega (arith, is, range.0)) in
    let plus : eqb (get_or ds 0 0) 43 ≡ false = ne_eqb (get_or ds 0 0) 43 (λ is. omega (arith, is, range.0)) in
    let bare : without_leading_sign ds ≡ ds =
    cond-false (starts_with_minus ds) (drop 1 ds) (without_leading_plus ds) minus ∙ ap (λ b. drop (cond b 1 0) ds) plus in
    ap (λ b. option_map (signed b) (whole_of (without_leading_sign ds))) minus
    ∙ ap (λ w. option_map (signed false) (whole_of w)) bare
    ∙ ap (option_map (signed false)) (whole_of-digits ds e)

-- digits with or without a minus before them
abbrev pub with_sign : Bool → List ℕ → List ℕ
with_sign true ds = 45 ∷ ds
with_sign false ds = ds

pub number_of-signed : (negative : Bool) (ds : List ℕ) → is_digits ds ≡ true → number_of (with_sign negative ds) ≡ Some (signed negative (digits_value 10 ds))
unfolding number_of
number_of-signed true ds e = ap (option_map (signed true)) (whole_of-digits ds e)
number_of-signed false ds e = number_of-digits ds e

split_cases : (b : ℕ) (bs : List ℕ) (t : Bool) → eqb b 45 ≡ t → with_sign t (cond t bs (b ∷ bs)) ≡ b ∷ bs
split_cases b bs true e = ap (λ x. x ∷ bs) (sym (eqb-true b 45 e))
split_cases b bs false e = refl

-- a text is its leading minus, if there is one, and the rest
pub sign_and_rest : (text : List ℕ) → with_sign (starts_with_minus text) (without_minus text) ≡ text
sign_and_rest [] = refl
sign_and_rest (b ∷ bs) = split_cases b bs (eqb b 45) refl

pub take_fewer : (j k : ℕ) (xs : List ℕ) → j ≤ length (take k xs) → take j (take k xs) ≡ take j xs
take_fewer j k xs l = sym (take-append-le j (take k xs) (drop k xs) l) ∙ ap (take j) (take-append-drop k xs)

le_from : (a b : ℤ) → int_le a b ≡ true → a ≤ℤ b
le_from a b e = grind (arith, ints)

not_le_from : (a b : ℤ) → int_le a b ≡ false → a ≤ℤ b → ⊥
not_le_from a b e l = grind (arith, ints)

-- a number that is checked to be within limits
pub within-from_SomeIff : (least most z : ℤ) (o : Option ℤ) → SomeIff o ((least ≤ℤ z) × (z ≤ℤ most)) z → o ≡ within least most (Some z)
within-from_SomeIff least most z o h = within_cases (int_le least z) (int_le z most) refl refl o h
  where
    within_cases : (a b : Bool) → int_le least z ≡ a → int_le z most ≡ b → (o : Option ℤ) → SomeIff o ((least ≤ℤ z) × (z ≤ℤ most)) z
        → o ≡ cond (a && b) (Some z) None
    within_cases true true low high (Some x) h = ap Some h.1
    within_cases true true low high None h = absurd (h (le_from least z low, le_from z most high))
    within_cases true false low high (Some x) h = absurd (not_le_from z most high h.0.1)
    within_cases true false low high None h = refl
    within_cases false b low high (Some x) h = absurd (not_le_from least z low h.0.0)
    within_cases false b low high None h = refl

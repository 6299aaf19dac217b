-- Numbers at the beginning of a text.
use Rattle.std.proofs.Common.{◌≡◌, ℕ, Bool, true, false, List, ◌++◌, length, get_or, take, drop, refl, sym, ap, ◌∙◌, arith}
use Rattle.std.specs.Char.{is_ascii_digit}
use Rattle.std.specs.List.{AllByRecursion, list_all}
use Rattle.std.specs.Str.Parse.{digits_value, starts_with_minus}
use Rattle.std.proofs.lemmas.Bool.Decides.{nat_tests}
use Rattle.std.proofs.lemmas.List.{get_or_default, take-append-drop}
use Rattle.std.proofs.lemmas.List.Elements.{recursion_from_All}
use Rattle.text_lines.specs.NumberPrefix.{BeginsWithNumber}
use Rattle.text_lines.specs.Numbers.{is_digits, signed, without_minus}
use Rattle.text_lines.specs.Words.{EndsWord, IsWord, is_blank, words_of}
use Rattle.text_lines.proofs.NumberLemmas.{digit_at, digit_bounds, digits_some, is_digits-all, number_of-signed, sign_and_rest, with_sign}
use Rattle.text_lines.proofs.WordLemmas.{words_of-front}

pub digit_no_blank : (b : ℕ) → is_ascii_digit b ≡ true → is_blank b ≡ false
digit_no_blank b e = let range = digit_bounds b e in grind (arith, nat_tests)

digits_no_blank : (ds : List ℕ) → is_digits ds ≡ true → AllByRecursion (λ b. is_blank b ≡ false) ds
digits_no_blank ds e =
    recursion_from_All (λ b. is_blank b ≡ false) ds (λ k d h. rw (get_or_default ds k d 0 h) (digit_no_blank (get_or ds k 0) (digit_at ds e k h)))

signed_is_word : (negative : Bool) (ds : List ℕ) → is_digits ds ≡ true → IsWord (with_sign negative ds)
signed_is_word true ds e = (omega arith, (refl, digits_no_blank ds e))
signed_is_word false ds e = (digits_some ds e, digits_no_blank ds e)

with_sign-append : (negative : Bool) (xs ys : List ℕ) → with_sign negative (xs ++ ys) ≡ with_sign negative xs ++ ys
with_sign-append true xs ys = refl
with_sign-append false xs ys = refl

-- if a text is a minus or no sign, then digits, then a rest that ends the word, the text begins with this number
pub begins_with_number : (text body digits rest : List ℕ) (negative : Bool) (len : ℕ) → negative ≡ starts_with_minus text → body ≡ without_minus text
    → list_all is_ascii_digit (take len body) ≡ true → digits ≡ take len body → rest ≡ drop len body → (length digits ≡ 0 → ⊥) → EndsWord rest
    → BeginsWithNumber text (signed negative (digits_value 10 digits)) rest
begins_with_number text body digits rest negative len sign unsigned all front back some ends =
    let word = with_sign negative digits in
    let is : is_digits digits ≡ true = is_digits-all digits some ∙ ap (list_all is_ascii_digit) front ∙ all in
    let parts : body ≡ digits ++ rest = sym (take-append-drop len body) ∙ ap (λ xs. xs ++ drop len body) (sym front) ∙ ap (λ xs. digits ++ xs) (sym back) in
    let whole : text ≡ word ++ rest =
    sym (sign_and_rest text)
    ∙ ap (λ xs. with_sign (starts_with_minus text) xs) (sym unsigned)
    ∙ ap (λ b. with_sign b body) (sym sign)
    ∙ ap (with_sign negative) parts
    ∙ with_sign-append negative digits rest in
    (word, ap words_of whole ∙ words_of-front word rest (signed_is_word negative digits is) ends, number_of-signed negative digits is)

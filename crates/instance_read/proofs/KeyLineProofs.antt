-- The key and the value of a line from its parts, and the parts from them.
use Rattle.std.proofs.Common.{◌≡◌, ℕ, suc, ◌+◌, ◌-◌, ◌<◌, ◌≤◌, true, false, ◌⊎◌, inl, inr, ⊎_elim, List, [], ◌∷◌, ◌++◌, length, get_or, take, drop, Option, Some}
use Rattle.std.proofs.Common.{refl, sym, ap, subst, ◌∙◌, arith, append-nil, length-append}
use Rattle.std.specs.Prelude.{not, IfSome}
use Rattle.std.specs.List.{after_first, before_first, last_or, position_or_len, prefix_len, suffix_len}
use Rattle.std.proofs.lemmas.Bool.{and_from, and_parts, cases_Bool, cases_lt, eqb-true, false≢true, ne_eqb}
use Rattle.std.proofs.lemmas.List.{drop_all, drop_at, drop_more, get_or-take, get_or_append_left, get_or_at, get_or-append_right, get_or_default, length-take, take-append-drop, take_all, take_at}
use Rattle.std.proofs.lemmas.List.Folds.{list_all-append}
use Rattle.std.proofs.lemmas.List.Sums.{AllPass-from_list_all, fails_before_first, passes_at_first, position_or_len_is, prefix_len-le-length, prefix_len_stops, split_at_first, suffix_len_is}
use Rattle.text_lines.proofs.LawProofs.{drop_after}
use Rattle.text_lines.proofs.NumberLemmas.{front_passes}
use Rattle.text_lines.specs.Words.{is_blank, is_blank_line}
use Rattle.instance_read.specs.VrpKeys.{KeyLinesFollowGrammar, BeginsWithNonBlank, EndsWithNonBlank, HasNoColon, IsKeyAlone, IsKeyWithValue, IsTrimmed}
use Rattle.instance_read.specs.VrpLines.{is_colon, key_text, trimmed, value_text}

-- ---- leading blanks
rest_begins : (text : List ℕ) → BeginsWithNonBlank (drop (prefix_len is_blank text) text)
rest_begins text =
    let n = prefix_len is_blank text in
    ⊎_elim
    (λ more. subst BeginsWithNonBlank (sym (drop_more text n 0 more)) (prefix_len_stops is_blank text 0 more))
    (λ all. subst BeginsWithNonBlank (sym (drop_all n text all)) tt)
    (cases_lt n (length text))

front_length : (front rest : List ℕ) → is_blank_line front ≡ true → BeginsWithNonBlank rest → prefix_len is_blank (front ++ rest) ≡ length front
front_length [] [] blank solid = refl
front_length [] (b ∷ rest) blank solid = rw solid refl
front_length (b ∷ front) rest blank solid =
    let parts = and_parts (is_blank b) (is_blank_line front) blank in
    rw (parts.0, front_length front rest parts.1 solid) (omega arith)

all_blank : (text : List ℕ) → is_blank_line text ≡ true → prefix_len is_blank text ≡ length text
all_blank text blank = ap (prefix_len is_blank) (sym (append-nil text)) ∙ front_length text [] blank tt

-- ---- trailing blanks
record Ended (text : List ℕ) : Type 0 where
  middle : List ℕ
  following : List ℕ
  whole : text ≡ middle ++ following
  blank : is_blank_line following ≡ true
  ends : EndsWithNonBlank middle

ended_of : (text : List ℕ) → Ended text
ended_of [] = record { middle = []; following = []; whole = refl; blank = refl; ends = tt }
ended_of (b ∷ text) = more (ended_of text)
  where
    by_blank : (following : List ℕ) → text ≡ following → is_blank_line following ≡ true → (is_blank b ≡ true) ⊎ (is_blank b ≡ false) → Ended (b ∷ text)
    by_blank following whole blank (inl here) = record { middle = []; following = b ∷ following; whole = ap (λ t. b ∷ t) whole; blank = and_from (is_blank b) (is_blank_line following) here blank; ends = tt }
    by_blank following whole blank (inr solid) = record { middle = b ∷ []; following = following; whole = ap (λ t. b ∷ t) whole; blank = blank; ends = solid }

    by_middle : (middle following : List ℕ) → text ≡ middle ++ following → is_blank_line following ≡ true → EndsWithNonBlank middle → Ended (b ∷ text)
    by_middle [] following whole blank ends = by_blank following whole blank (cases_Bool (is_blank b))
    by_middle (c ∷ middle) following whole blank ends = record { middle = b ∷ c ∷ middle; following = following; whole = ap (λ t. b ∷ t) whole; blank = blank; ends = ends }

    more : Ended text → Ended (b ∷ text)
    more found = by_middle found.middle found.following found.whole found.blank found.ends

last_from : (d b : ℕ) (text : List ℕ) → last_or (Some b) text ≡ Some (get_or (b ∷ text) (length text) d)
last_from d b [] = refl
last_from d b (c ∷ text) = last_from d c text

-- the number of trailing blanks after a middle that ends without one
end_length : (d b : ℕ) (middle following : List ℕ) → is_blank_line following ≡ true → EndsWithNonBlank (b ∷ middle) → suffix_len is_blank ((b ∷ middle) ++ following) ≡ length following
end_length d b middle following blank ends =
    let text = (b ∷ middle) ++ following in
    let n = length (b ∷ middle) in
    let long = length-append (b ∷ middle) following in
    let solid : is_blank (get_or (b ∷ middle) (length middle) d) ≡ false =
    subst (λ (o : Option ℕ). IfSome o (λ c. is_blank c ≡ false)) (last_from d b middle) ends in
    let at_end : n - 1 ≡ length middle = omega arith in
    let is = suffix_len_is is_blank text n d (omega (arith, long))
    (λ k from to. rw (get_or-append_right (b ∷ middle) following n k d refl from) (AllPass-from_list_all is_blank following blank (k - n) d (omega (arith, long, from, to))))
    (λ some. rw (at_end, get_or_append_left (b ∷ middle) following d (length middle) (omega arith)) solid) in
    omega (arith, is, long)

-- ---- a text without the blanks around it
trimmed_from_parts : (text before middle following : List ℕ) → text ≡ before ++ (middle ++ following) → is_blank_line before ≡ true → is_blank_line following ≡ true
    → BeginsWithNonBlank middle → EndsWithNonBlank middle → trimmed text ≡ middle
trimmed_from_parts text before [] following whole blank blank2 begins ends =
    let n = prefix_len is_blank text in
    let all : is_blank_line text ≡ true =
    ap is_blank_line whole ∙ list_all-append is_blank before following ∙ and_from (is_blank_line before) (is_blank_line following) blank blank2 in
    let none : drop n text ≡ [] = drop_all n text (omega (arith, all_blank text all)) in
    ap (λ front. take (length front - suffix_len is_blank front) front) none
trimmed_from_parts text before (b ∷ middle) following whole blank blank2 begins ends =
    let rest = (b ∷ middle) ++ following in
    let n : prefix_len is_blank text ≡ length before = ap (prefix_len is_blank) whole ∙ front_length before rest blank begins in
    let front : drop (prefix_len is_blank text) text ≡ rest = ap (λ k. drop k text) n ∙ ap (drop (length before)) whole ∙ drop_at before rest (length before) refl in
    let len : length rest - suffix_len is_blank rest ≡ length (b ∷ middle) = omega (arith, end_length 0 b middle following blank2 ends, length-append (b ∷ middle) following) in
    ap (λ f. take (length f - suffix_len is_blank f) f) front
    ∙ ap (λ k. take k rest) len
    ∙ take_at (b ∷ middle) following (length (b ∷ middle)) refl

trimmed_from : (text middle : List ℕ) → IsTrimmed text middle → trimmed text ≡ middle
trimmed_from text middle is = trimmed_from_parts text is.before middle is.following is.whole is.blank_before is.blank_after is.begins is.ends

trimmed_is : (text : List ℕ) → IsTrimmed text (trimmed text)
trimmed_is text =
    let n = prefix_len is_blank text in
    from (ended_of (drop n text))
  where
    begins_more : (rest middle following : List ℕ) → rest ≡ middle ++ following → BeginsWithNonBlank rest → BeginsWithNonBlank middle
    begins_more rest [] following whole solid = tt
    begins_more rest (b ∷ middle) following whole solid = subst BeginsWithNonBlank whole solid

    from : Ended (drop (prefix_len is_blank text) text) → IsTrimmed text (trimmed text)
    from found =
        let n = prefix_len is_blank text in
        let is : IsTrimmed text found.middle = record {
          before = take n text;
          following = found.following;
          whole = sym (take-append-drop n text) ∙ ap (λ rest. take n text ++ rest) found.whole;
          blank_before = front_passes is_blank text;
          blank_after = found.blank;
          begins = begins_more (drop n text) found.middle found.following found.whole (rest_begins text);
          ends = found.ends;
        } in
        subst (IsTrimmed text) (sym (trimmed_from text found.middle is)) is

-- ---- a line with its first colon
colon_fits : (line : List ℕ) → position_or_len is_colon line ≤ length line
colon_fits line = prefix_len-le-length (λ b. not (is_colon b)) line

no_colon_before : (line : List ℕ) → HasNoColon (before_first is_colon line)
no_colon_before line (k, less, here) =
    let n = position_or_len is_colon line in
    let before : k < n = omega (arith, less, length-take n line, colon_fits line) in
    false≢true (sym (fails_before_first is_colon line k 58 before) ∙ ap is_colon (sym (get_or-take n line k 58 before) ∙ here))

colon_at : (line : List ℕ) → position_or_len is_colon line < length line → line ≡ before_first is_colon line ++ 58 ∷ after_first is_colon line
colon_at line more =
    let n = position_or_len is_colon line in
    split_at_first is_colon line 0 more ∙ ap (λ b. before_first is_colon line ++ b ∷ after_first is_colon line) (eqb-true (get_or line n 0) 58 (passes_at_first is_colon line 0 more))

other_than_colon : (text : List ℕ) → HasNoColon text → (k : ℕ) → k < length text → is_colon (get_or text k 0) ≡ false
other_than_colon text none k h = ne_eqb (get_or text k 0) 58 (λ is. none (k, h, get_or_default text k 58 0 h ∙ is))

colon_after : (front back : List ℕ) → HasNoColon front → position_or_len is_colon (front ++ 58 ∷ back) ≡ length front
colon_after front back none =
    let line = front ++ 58 ∷ back in
    position_or_len_is is_colon line (length front) 0 (omega (arith, length-append front (58 ∷ back)))
    (λ k h. rw (get_or_append_left front (58 ∷ back) 0 k h) (other_than_colon front none k h))
    (λ h. ap is_colon (get_or_at front 58 back 0 (length front) refl))

no_colon : (line : List ℕ) → HasNoColon line → position_or_len is_colon line ≡ length line
no_colon line none =
    position_or_len_is is_colon line (length line) 0 (omega arith) (other_than_colon line none) (λ h. absurd (omega (arith, h)))

from_value : (line key value : List ℕ) → IsKeyWithValue line key value → (key_text line ≡ key) × (value_text line ≡ value)
from_value line key value is =
    let n : position_or_len is_colon line ≡ length is.front = ap (position_or_len is_colon) is.whole ∙ colon_after is.front is.back is.first in
    let before : before_first is_colon line ≡ is.front =
    ap (λ k. take k line) n ∙ ap (take (length is.front)) is.whole ∙ take_at is.front (58 ∷ is.back) (length is.front) refl in
    let following : after_first is_colon line ≡ is.back =
    let more : length is.front + 1 ≡ suc (length is.front) = omega arith in
    ap (λ k. drop (k + 1) line) n ∙ ap (λ k. drop k line) more ∙ ap (drop (suc (length is.front))) is.whole ∙ drop_after is.front 58 is.back in
    (ap trimmed before ∙ trimmed_from is.front key is.key_is, ap trimmed following ∙ trimmed_from is.back value is.value_is)

from_alone : (line key value : List ℕ) → IsKeyAlone line key value → (key_text line ≡ key) × (value_text line ≡ value)
from_alone line key value is =
    let n = no_colon line is.none in (
      ap trimmed (take_all (position_or_len is_colon line) line (omega (arith, n))) ∙ trimmed_from line key is.key_is,
      ap trimmed (drop_all (position_or_len is_colon line + 1) line (omega (arith, n))) ∙ sym is.value_is,
    )

parts_of : (line : List ℕ) → IsKeyWithValue line (key_text line) (value_text line) ⊎ IsKeyAlone line (key_text line) (value_text line)
parts_of line =
    let n = position_or_len is_colon line in
    ⊎_elim
    (λ more. inl (record {
      front = before_first is_colon line;
      back = after_first is_colon line;
      whole = colon_at line more;
      first = no_colon_before line;
      key_is = trimmed_is (before_first is_colon line);
      value_is = trimmed_is (after_first is_colon line);
    }))
    (λ all.
    let same : before_first is_colon line ≡ line = take_all n line all in
    inr (record {
      none = subst HasNoColon same (no_colon_before line);
      key_is = subst (λ text. IsTrimmed text (key_text line)) same (trimmed_is (before_first is_colon line));
      value_is = ap trimmed (drop_all (n + 1) line (omega (arith, all)));
    }))
    (cases_lt n (length line))

pub key_lines : KeyLinesFollowGrammar
key_lines line key value = (
  λ (key_is, value_is).
      subst (λ v. IsKeyWithValue line key v ⊎ IsKeyAlone line key v) value_is
      (subst (λ k. IsKeyWithValue line k (value_text line) ⊎ IsKeyAlone line k (value_text line)) key_is (parts_of line)),
  λ is. ⊎_elim (from_value line key value) (from_alone line key value) is,
)

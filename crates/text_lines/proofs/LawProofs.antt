-- Proofs of the laws about lines, words and numbers.
use Rattle.std.proofs.Common.{
  ◌≡◌,
  ℕ,
  suc,
  inl,
  inr,
  ◌<◌,
  ◌≤◌,
  ◌^◌,
  true,
  false,
  not,
  List,
  [],
  ◌∷◌,
  ◌++◌,
  length,
  get_or,
  take,
  drop,
  map,
  Some,
  pos,
  refl,
  sym,
  ap,
  subst,
  ◌∙◌,
  arith,
  length-append,
  length-take,
  ⊎_elim,
  get_or-take,
}
use Rattle.std.specs.Char.{is_ascii_digit}
use Rattle.std.specs.Fmt.{decimal}
use Rattle.std.specs.List.{position_or_len, prefix_len, list_all, flat_map}
use Rattle.std.specs.Str.Lines.{strip_carriage_return}
use Rattle.std.specs.Str.Parse.{IsNumeral, digits_value}
use Rattle.std.proofs.lemmas.Fmt.{decimal_is_IsNumeral}
use Rattle.std.proofs.lemmas.List.{append_assoc, append-nil, append_cancel_right, take_at, get_or_at, get_or_append_left, drop_all, drop_more, take_all, take-append-drop, get_or_default}
use Rattle.std.proofs.lemmas.List.Elements.{All-head, All-tail, recursion_from_All}
use Rattle.std.proofs.lemmas.List.Sums.{prefix_len-le-length, fails_before_first, passes_at_first, list_all-from_AllPass}
use Rattle.std.proofs.lemmas.Str.Parse.{digit_at}
use Rattle.std.proofs.lemmas.Bool.{and_from, and_parts, cases_lt, le-leb}
use Rattle.text_lines.proofs.NumberLemmas.{front_passes, is_digits-all, digits_of-yes, number_of-digits}
use Rattle.text_lines.specs.Lines.{lines_of, pieces_of, with_line_feed, TextSplitsIntoLines, HasNoLineFeed, LinesEndAtFeeds, LastLineEndsWithText, IsCutAtLineFeeds}
use Rattle.text_lines.specs.Words.{is_blank, is_blank_line, words_of, IsWord, EndsWord, ConsistsOfWords}
use Rattle.text_lines.specs.Numbers.{digits_of, is_digits, number_of, DecimalsParseBack}
use Rattle.text_lines.proofs.PieceLemmas.{nil_feed, pieces_are_cut, pieces_at, pieces_nil, pieces_whole, lines_from_pieces}
use Rattle.text_lines.proofs.WordLemmas.{words_of-word, words_of-trim, words_of-none, front_no_blank, words_blank, words_nil, words_of-front}

-- ---- lines
pub drop_after : (xs : List ℕ) (y : ℕ) (ys : List ℕ) → drop (suc (length xs)) (xs ++ y ∷ ys) ≡ ys
drop_after [] y ys = refl
drop_after (x ∷ xs) y ys = drop_after xs y ys

-- no place of the piece has a line feed
no_feed_at : (piece : List ℕ) → HasNoLineFeed piece → (j : ℕ) → j < length piece → get_or piece j 0 ≡ 10 → ⊥
no_feed_at piece none j h here = none (j, h, get_or_default piece j 10 0 h ∙ here)

-- the first piece, if a line feed ends it
cut_first : (piece rest : List ℕ) → HasNoLineFeed piece → pieces_of (piece ++ 10 ∷ rest) ≡ piece ∷ pieces_of rest
cut_first piece rest none =
    let text = piece ++ 10 ∷ rest in
    let n = length piece in
    pieces_at text n (omega (arith, length-append piece (10 ∷ rest)))
    (λ j h here. no_feed_at piece none j h (sym (get_or_append_left piece (10 ∷ rest) 0 j h) ∙ here)) (get_or_at piece 10 rest 0 n refl)
    ∙ ap (λ p. p ∷ pieces_of (drop (suc n) text)) (take_at piece (10 ∷ rest) n refl)
    ∙ ap (λ r. piece ∷ pieces_of r) (drop_after piece 10 rest)

pub end_at_feeds : LinesEndAtFeeds
end_at_feeds piece rest none = lines_from_pieces (piece ++ 10 ∷ rest) piece rest (cut_first piece rest none)

pub end_with_text : LastLineEndsWithText
unfolding lines_of
end_with_text piece none some = ap (λ ps. map strip_carriage_return ps) (pieces_whole piece some (no_feed_at piece none))

-- one or more pieces, each followed by a line feed, end with a line feed
ends_with_feed : (p : List ℕ) (ps : List (List ℕ)) → (text : List ℕ) × (flat_map with_line_feed (p ∷ ps) ≡ text ++ 10 ∷ [])
ends_with_feed p [] = (p, append-nil (p ++ 10 ∷ []))
ends_with_feed p (q ∷ ps) = more (ends_with_feed q ps)
  where
    more : ((text : List ℕ) × (flat_map with_line_feed (q ∷ ps) ≡ text ++ 10 ∷ [])) → (text : List ℕ) × (flat_map with_line_feed (p ∷ q ∷ ps) ≡ text ++ 10 ∷ [])
    more (text, is) = ((p ++ 10 ∷ []) ++ text, ap (λ t. (p ++ 10 ∷ []) ++ t) is ∙ sym (append_assoc (p ++ 10 ∷ []) text (10 ∷ [])))

pieces_from_cut : (pieces : List (List ℕ)) (text : List ℕ) → IsCutAtLineFeeds text pieces → pieces_of text ≡ pieces
pieces_from_cut [] text (none, inl is) = ap pieces_of (sym is) ∙ pieces_nil
pieces_from_cut [] text (none, inr (is, last)) = absurd (nil_feed text is)
pieces_from_cut (p ∷ ps) text (none, inl is) =
    let rest = flat_map with_line_feed ps in
    ap pieces_of (sym is ∙ append_assoc p (10 ∷ []) rest)
    ∙ cut_first p rest (All-head HasNoLineFeed p ps none)
    ∙ ap (λ qs. p ∷ qs) (pieces_from_cut ps rest (All-tail HasNoLineFeed p ps none, inl refl))
pieces_from_cut (p ∷ []) text (none, inr (is, last)) =
    let same : p ≡ text = append_cancel_right p text (10 ∷ []) (sym (append-nil (p ++ 10 ∷ [])) ∙ is) in
    ap pieces_of (sym same) ∙ pieces_whole p last (no_feed_at p (All-head HasNoLineFeed p [] none))
pieces_from_cut (p ∷ q ∷ ps) text (none, inr (is, last)) = by_rest (ends_with_feed q ps) (λ rest. pieces_from_cut (q ∷ ps) rest)
  where
    by_rest : ((rest : List ℕ) × (flat_map with_line_feed (q ∷ ps) ≡ rest ++ 10 ∷ [])) → ((rest : List ℕ) → IsCutAtLineFeeds rest (q ∷ ps) → pieces_of rest ≡ q ∷ ps)
        → pieces_of text ≡ p ∷ q ∷ ps
    by_rest (rest, ends) others =
        let whole : (p ++ 10 ∷ []) ++ rest ≡ text =
        append_cancel_right ((p ++ 10 ∷ []) ++ rest) text (10 ∷ [])
        (append_assoc (p ++ 10 ∷ []) rest (10 ∷ []) ∙ ap (λ t. (p ++ 10 ∷ []) ++ t) (sym ends) ∙ is) in
        ap pieces_of (sym whole ∙ append_assoc p (10 ∷ []) rest)
        ∙ cut_first p rest (All-head HasNoLineFeed p (q ∷ ps) none)
        ∙ ap (λ qs. p ∷ qs) (others rest (All-tail HasNoLineFeed p (q ∷ ps) none, inr (ends, last)))

pub cut_at_line_feeds : TextSplitsIntoLines
cut_at_line_feeds text pieces = (λ is. subst (IsCutAtLineFeeds text) is (pieces_are_cut text), pieces_from_cut pieces text)

-- ---- words
-- leading blanks add no word
words_of-gap : (gap rest : List ℕ) → is_blank_line gap ≡ true → words_of (gap ++ rest) ≡ words_of rest
words_of-gap [] rest blank = refl
words_of-gap (b ∷ gap) rest blank =
    let parts = and_parts (is_blank b) (list_all is_blank gap) blank in words_blank b (gap ++ rest) parts.0 ∙ words_of-gap gap rest parts.1

words_of-blanks : (line : List ℕ) → is_blank_line line ≡ true → words_of line ≡ []
words_of-blanks [] blank = words_nil
words_of-blanks (b ∷ line) blank =
    let parts = and_parts (is_blank b) (list_all is_blank line) blank in words_blank b line parts.0 ∙ words_of-blanks line parts.1

-- the words that a line consists of are its words
pub words_from_made : (words : List (List ℕ)) (line : List ℕ) → ConsistsOfWords line words → words_of line ≡ words
words_from_made [] line made = words_of-blanks line made
words_from_made (word ∷ words) line (gap, rest, whole, blank, is, ends, made) =
    ap words_of whole
    ∙ words_of-gap gap (word ++ rest) blank
    ∙ words_of-front word rest is ends
    ∙ ap (λ ws. word ∷ ws) (words_from_made words rest made)

-- the leading blanks of a line, the rest, and the length of its first word
abbrev gap_of : List ℕ → List ℕ
gap_of line = take (prefix_len is_blank line) line

abbrev body_of : List ℕ → List ℕ
body_of line = drop (prefix_len is_blank line) line

abbrev first_len : List ℕ → ℕ
first_len body = position_or_len is_blank body

-- if there is no word, there are only blanks
all_blank : (line : List ℕ) → first_len (body_of line) ≡ 0 → is_blank_line line ≡ true
all_blank line e =
    let n = prefix_len is_blank line in
    ⊎_elim
    (λ more. absurd (front_no_blank line more e))
    (λ all. subst (λ xs. is_blank_line xs ≡ true) (take_all n line all) (front_passes is_blank line))
    (cases_lt n (length line))

first_is_word : (body : List ℕ) → 0 < first_len body → IsWord (take (first_len body) body)
first_is_word body some =
    let n = first_len body in
    let fits : n ≤ length body = prefix_len-le-length (λ b. not (is_blank b)) body in (
      omega (arith, length-take n body),
      recursion_from_All (λ b. is_blank b ≡ false) (take n body) (λ k d h.
          let before : k < n = omega (arith, length-take n body) in
          rw get_or-take (fails_before_first is_blank body k d before)),
    )

first_ends : (body : List ℕ) → EndsWord (drop (first_len body) body)
first_ends body =
    let n = first_len body in
    ⊎_elim
    (λ more. subst EndsWord (sym (drop_more body n 0 more)) (passes_at_first is_blank body 0 more))
    (λ all. subst EndsWord (sym (drop_all n body all)) tt)
    (cases_lt n (length body))

same_head : {X : Type 0} {x y : X} {xs ys : List X} → x ∷ xs ≡ y ∷ ys → (x ≡ y) × (xs ≡ ys)
same_head e = (cc, cc)

nil_cons : {X : Type 0} {x : X} {xs : List X} → [] ≡ x ∷ xs → ⊥
nil_cons e = cc

-- a line consists of its words
pub made_from_words : (words : List (List ℕ)) (line : List ℕ) → words_of line ≡ words → ConsistsOfWords line words
made_from_words [] line is =
    let body = body_of line in
    ⊎_elim
    (λ some. absurd (nil_cons (sym is ∙ (sym (words_of-trim line) ∙ words_of-word body some))))
    (λ none. all_blank line (omega arith))
    (cases_lt 0 (first_len body))
made_from_words (word ∷ words) line is =
    let body = body_of line in
    let n = first_len body in
    let rest = drop n body in
    ⊎_elim
    (λ some.
    let both = same_head (sym (sym (words_of-trim line) ∙ words_of-word body some) ∙ is) in
    let whole : line ≡ gap_of line ++ (word ++ rest) =
    sym (take-append-drop (prefix_len is_blank line) line)
    ∙ ap (λ b. gap_of line ++ b) (sym (take-append-drop n body) ∙ ap (λ w. w ++ rest) both.0) in
    (gap_of line, rest, whole, front_passes is_blank line, subst IsWord both.0 (first_is_word body some), first_ends body, made_from_words words rest both.1))
    (λ none. absurd (nil_cons (sym (words_of-none line (omega arith)) ∙ is)))
    (cases_lt 0 n)

-- ---- the decimal digits of a number
module _ (n : ℕ) (small : n < 2 ^ 64) where
  numeral : IsNumeral 10 (decimal n) × (digits_value 10 (decimal n) ≡ n)
  numeral = decimal_is_IsNumeral n small

  decimal_digit_at : (k : ℕ) → k < length (decimal n) → is_ascii_digit (get_or (decimal n) k 0) ≡ true
  decimal_digit_at k l = let range = digit_at (decimal n) k numeral.0.1 l in and_from _ _ (le-leb 48 _ range.0) (le-leb _ 57 range.1)

  is_digits-decimal : is_digits (decimal n) ≡ true
  is_digits-decimal =
      is_digits-all (decimal n) (λ e. omega (arith, e, numeral.0.0))
      ∙ list_all-from_AllPass is_ascii_digit (decimal n) (λ k d h. rw (get_or_default (decimal n) k d 0 h) (decimal_digit_at k h))

  digits_of-decimal : digits_of (decimal n) ≡ Some n
  digits_of-decimal = digits_of-yes (decimal n) is_digits-decimal ∙ ap (λ v. Some v) numeral.1

  number_of-decimal : number_of (decimal n) ≡ Some (pos n)
  number_of-decimal = number_of-digits (decimal n) is_digits-decimal ∙ ap (λ v. Some (pos v)) numeral.1

pub are_read : DecimalsParseBack
are_read n small = (is_digits-decimal n small, digits_of-decimal n small, number_of-decimal n small)

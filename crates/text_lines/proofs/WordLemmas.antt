-- The first word of a line and the other words.
use Rattle.std.proofs.Common.{
  ◌≡◌,
  ℕ,
  ◌+◌,
  ◌<◌,
  ◌≤◌,
  one-add,
  Bool,
  true,
  false,
  not,
  cond,
  ⊎_elim,
  List,
  [],
  ◌∷◌,
  ◌++◌,
  length,
  get_or,
  take,
  drop,
  refl,
  sym,
  ap,
  subst,
  ◌∙◌,
  arith,
  take_at,
  drop_at,
  length-append,
}
use Rattle.std.specs.Prelude.{filter}
use Rattle.std.specs.List.{All, onto_first, slice_split, prefix_len, position_or_len, after_first}
use Rattle.std.proofs.lemmas.Bool.{cond_both, cases_lt, lt-ltb}
use Rattle.std.proofs.lemmas.List.{drop_more, drop_all, take_all, length-take, get_or_append_left, get_or_at}
use Rattle.std.proofs.lemmas.List.Splits.{slice_split-cons_yes, slice_split_none, slice_split_first}
use Rattle.std.proofs.lemmas.List.Sums.{fails_before_first, passes_at_first, prefix_len-le-length, prefix_len_stops, position_or_len_is}
use Rattle.std.proofs.lemmas.List.Elements.{All-from_recursion}
use Rattle.text_lines.specs.Words.{is_blank, is_not_empty, words_of, IsWord, EndsWord}

pub words_blank : (b : ℕ) (bs : List ℕ) → is_blank b ≡ true → words_of (b ∷ bs) ≡ words_of bs
unfolding words_of
words_blank b bs e = ap (filter is_not_empty) (slice_split-cons_yes is_blank b bs e)

pub words_nil : words_of [] ≡ []
unfolding words_of
words_nil = refl

trim_step : (b : ℕ) (bs : List ℕ) (t : Bool) → is_blank b ≡ t → words_of (drop (prefix_len is_blank bs) bs) ≡ words_of bs
    → words_of (drop (cond t (1 + prefix_len is_blank bs) 0) (b ∷ bs)) ≡ words_of (b ∷ bs)
trim_step b bs true e h = rw one-add (h ∙ sym (words_blank b bs e))
trim_step b bs false e h = refl

-- leading blanks add no word
pub words_of-trim : (xs : List ℕ) → words_of (drop (prefix_len is_blank xs) xs) ≡ words_of xs
words_of-trim [] = refl
words_of-trim (b ∷ bs) = trim_step b bs (is_blank b) refl (words_of-trim bs)

has_first : (n : ℕ) (xs : List ℕ) → 0 < n → n ≤ length xs → is_not_empty (take n xs) ≡ true
has_first n xs l fits = lt-ltb 0 (length (take n xs)) (omega (arith, length-take n xs))

keeps : (w : List ℕ) (ws : List (List ℕ)) → is_not_empty w ≡ true → filter is_not_empty (w ∷ ws) ≡ w ∷ filter is_not_empty ws
keeps w ws e = ap (λ t. cond t (w ∷ filter is_not_empty ws) (filter is_not_empty ws)) e

-- the case in which the word ends at a blank
word_then_blank : (xs : List ℕ) → 0 < position_or_len is_blank xs → position_or_len is_blank xs < length xs
    → words_of xs ≡ take (position_or_len is_blank xs) xs ∷ words_of (drop (position_or_len is_blank xs) xs)
unfolding words_of
word_then_blank xs l more =
    let n = position_or_len is_blank xs in
    let after : words_of (drop n xs) ≡ words_of (drop (n + 1) xs) =
    ap words_of (drop_more xs n 0 more) ∙ words_blank (get_or xs n 0) (drop (n + 1) xs) (passes_at_first is_blank xs 0 more) in
    ap (filter is_not_empty) (slice_split_first is_blank xs 0 more)
    ∙ keeps (take n xs) (slice_split is_blank (after_first is_blank xs)) (has_first n xs l (omega arith))
    ∙ ap (λ ws. take n xs ∷ ws) (sym after)

-- the case in which the word ends with the line
word_to_end : (xs : List ℕ) → 0 < length xs → length xs ≤ position_or_len is_blank xs → words_of xs ≡ xs ∷ []
unfolding words_of
word_to_end xs l all =
    let none : All (λ b. is_blank b ≡ false) xs = λ k d h. fails_before_first is_blank xs k d (omega arith) in
    ap (filter is_not_empty) (slice_split_none is_blank xs none) ∙ keeps xs [] (lt-ltb 0 (length xs) l)

-- the first word, if the line does not begin with a blank
pub words_of-word : (xs : List ℕ) → 0 < position_or_len is_blank xs
    → words_of xs ≡ take (position_or_len is_blank xs) xs ∷ words_of (drop (position_or_len is_blank xs) xs)
words_of-word xs l =
    let n = position_or_len is_blank xs in
    ⊎_elim
    (λ more. word_then_blank xs l more)
    (λ all.
    let fits : n ≤ length xs = prefix_len-le-length (λ b. not (is_blank b)) xs in
    word_to_end xs (omega arith) all
    ∙ ap (λ w. w ∷ []) (sym (take_all n xs all))
    ∙ ap (λ ws. take n xs ∷ ws) (sym (ap words_of (drop_all n xs all) ∙ words_nil)))
    (cases_lt n (length xs))

-- the rest after the leading blanks does not begin with a blank
pub front_no_blank : (xs : List ℕ) → prefix_len is_blank xs < length xs → position_or_len is_blank (drop (prefix_len is_blank xs) xs) ≡ 0 → ⊥
front_no_blank xs more e =
    let n = prefix_len is_blank xs in
    let stops = prefix_len_stops is_blank xs 0 more in
    let front = ap (position_or_len is_blank) (drop_more xs n 0 more) in
    let counted : position_or_len is_blank (get_or xs n 0 ∷ drop (n + 1) xs) ≡ 1 + position_or_len is_blank (drop (n + 1) xs) =
    ap (λ t. cond (not t) (1 + position_or_len is_blank (drop (n + 1) xs)) 0) stops in
    omega (arith, front, counted, e)

-- if no word follows the leading blanks, the line has no words
pub words_of-none : (xs : List ℕ) → position_or_len is_blank (drop (prefix_len is_blank xs) xs) ≡ 0 → words_of xs ≡ []
words_of-none xs e =
    let n = prefix_len is_blank xs in
    ⊎_elim
    (λ more. absurd (front_no_blank xs more e))
    (λ all. sym (words_of-trim xs) ∙ ap words_of (drop_all n xs all) ∙ words_nil)
    (cases_lt n (length xs))

-- one step: ys is xs without its leading blanks, w has the bytes of ys before the next blank, and rest the
-- others
module _ (xs ys w rest : List ℕ) (n : ℕ) (trims : ys ≡ drop (prefix_len is_blank xs) xs) (ends : n ≡ position_or_len is_blank ys) (front : w ≡ take n ys)
    (back : rest ≡ drop n ys) where
  word_length : length w ≡ n
  word_length =
      let fits = prefix_len-le-length (λ b. not (is_blank b)) ys in
      omega (arith, ap length front, length-take n ys, ends, fits)

  same_words : words_of xs ≡ words_of ys
  same_words = sym (words_of-trim xs) ∙ ap words_of (sym trims)

  pub step_none : length w ≡ 0 → (words_of xs ≡ []) × (words_of rest ≡ [])
  step_none e =
      let zero_len : n ≡ 0 = omega (arith, word_length, e) in
      let none = words_of-none xs (sym (ends ∙ ap (position_or_len is_blank) trims) ∙ zero_len) in
      (none, ap words_of (back ∙ ap (λ k. drop k ys) zero_len) ∙ sym same_words ∙ none)

  pub step_word : (length w ≡ 0 → ⊥) → words_of xs ≡ w ∷ words_of rest
  step_word e =
      let long : 0 < n = omega (arith, word_length, e) in
      let cut : words_of ys ≡ take n ys ∷ words_of (drop n ys) =
      let P : ℕ → Type 0 = λ k. words_of ys ≡ take k ys ∷ words_of (drop k ys) in
      subst P (sym ends) (words_of-word ys (omega (arith, ends))) in
      same_words ∙ cut ∙ ap (λ v. v ∷ words_of (drop n ys)) (sym front) ∙ ap (λ r. w ∷ words_of r) (sym back)

-- a line has at most as many words as bytes
filter-cons-le : (w : List ℕ) (ws : List (List ℕ)) → length (filter is_not_empty ws) ≤ length (filter is_not_empty (w ∷ ws))
filter-cons-le w ws =
    cond_both (is_not_empty w) (w ∷ filter is_not_empty ws) (filter is_not_empty ws) (λ vs. length (filter is_not_empty ws) ≤ length vs) (λ _. omega arith)
    (λ _. omega arith)

onto_first-le : (b : ℕ) (ps : List (List ℕ)) → length (filter is_not_empty (onto_first b ps)) ≤ length (filter is_not_empty ps) + 1
onto_first-le b [] = omega (arith, ap length (keeps (b ∷ []) [] (lt-ltb 0 1 (omega arith))))
onto_first-le b (p ∷ ps) = omega (arith, ap length (keeps (b ∷ p) ps (lt-ltb 0 (length (b ∷ p)) (omega arith))), filter-cons-le p ps)

split-le : (b : ℕ) (bs : List ℕ) (t : Bool)
    → length (filter is_not_empty (cond t ([] ∷ slice_split is_blank bs) (onto_first b (slice_split is_blank bs))))
    ≤ length (filter is_not_empty (slice_split is_blank bs)) + 1
split-le b bs true = omega arith
split-le b bs false = onto_first-le b (slice_split is_blank bs)

pub length-words_of-le : (line : List ℕ) → length (words_of line) ≤ length line
unfolding words_of
length-words_of-le [] = omega arith
length-words_of-le (b ∷ bs) = omega (arith, split-le b bs (is_blank b), length-words_of-le bs)

-- ---- a word at the beginning of a text
word_at : (word : List ℕ) → IsWord word → (j : ℕ) → j < length word → is_blank (get_or word j 0) ≡ false
word_at word is j h = All-from_recursion (λ b. is_blank b ≡ false) word is.1 j 0 h

front_word_length : (word rest : List ℕ) → IsWord word → EndsWord rest → position_or_len is_blank (word ++ rest) ≡ length word
front_word_length word [] is ends =
    position_or_len_is is_blank (word ++ []) (length word) 0 (omega (arith, length-append word []))
    (λ j h. rw (get_or_append_left word [] 0 j h) (word_at word is j h))
    (λ h. absurd (omega (arith, length-append word [])))
front_word_length word (b ∷ rest) is ends =
    position_or_len_is is_blank (word ++ b ∷ rest) (length word) 0 (omega (arith, length-append word (b ∷ rest)))
    (λ j h. rw (get_or_append_left word (b ∷ rest) 0 j h) (word_at word is j h))
    (λ h. rw (get_or_at word b rest 0 (length word) refl) ends)

pub words_of-front : (word rest : List ℕ) → IsWord word → EndsWord rest → words_of (word ++ rest) ≡ word ∷ words_of rest
words_of-front word rest is ends =
    let line = word ++ rest in
    let len = front_word_length word rest is ends in
    words_of-word line (omega (arith, len, is.0))
    ∙ ap (λ k. take k line ∷ words_of (drop k line)) len
    ∙ ap (λ w. w ∷ words_of (drop (length word) line)) (take_at word rest (length word) refl)
    ∙ ap (λ r. word ∷ words_of r) (drop_at word rest (length word) refl)

-- The state after a scan of a line shows whether the line announces a text.
use Rattle.std.proofs.Common.{
  ◌≡◌,
  ◌∙◌,
  inl,
  inr,
  ℕ,
  ◌-◌,
  ◌&&◌,
  ◌||◌,
  ◌==◌,
  Bool,
  true,
  false,
  if◌then◌else◌,
  List,
  [],
  ◌∷◌,
  ◌++◌,
  length,
  take,
  slice_index,
  codes,
  bytes_eq,
  refl,
  sym,
  ap,
  subst,
  arith,
  length-append,
}
use Rattle.std.specs.List.{AllByRecursion}
use Rattle.std.specs.Str.Lines.{strip_carriage_return}
use Rattle.std.proofs.lemmas.Bool.{cases_Bool, eq-eqb, eqb-true, eqb-false, ne_eqb, both_ways}
use Rattle.std.proofs.lemmas.List.{get_or_at}
use Rattle.std.proofs.Math.Seq.{take-append_seam}
use Rattle.text_lines.specs.Words.{LinesSplitIntoWords, EndsWord, ConsistsOfWords, IsWord, is_blank, is_blank_line, words_of}
use Rattle.command_text.specs.Parsing.{announces_text}
use Rattle.command_text.specs.Scanning.{next_letter, is_announcement, scan_of, scanned_on, scanned_byte}
use Rattle.command_text.specs.declared.first_word.FirstWord.{FirstWord}
use Rattle.command_text.specs.declared.first_word.FirstWord.TheVariants.{Nothing, L, Lo, Loa, A, Ad, Ado, Adop, Whole, WholeAndReturn, Over, Other}

pub scanned_append : (w : FirstWord) (xs ys : List ℕ) → scanned_on w (xs ++ ys) ≡ scanned_on (scanned_on w xs) ys
scanned_append w [] ys = refl
scanned_append w (x ∷ xs) ys = scanned_append (scanned_byte w x) xs ys

-- the first word is `load` or `adopt`, whether or not a blank follows it
abbrev is_whole : FirstWord → Bool
is_whole Whole = true
is_whole Over = true
is_whole _ = false

other : (bytes : List ℕ) → is_whole (scanned_on Other bytes) ≡ false
other [] = refl
other (b ∷ bs) = other bs

over : (bytes : List ℕ) → is_whole (scanned_on Over bytes) ≡ true
over [] = refl
over (b ∷ bs) = over bs

returned : (bytes : List ℕ) → is_whole (scanned_on WholeAndReturn bytes) ≡ false
returned [] = refl
returned (b ∷ bs) = other bs

abbrev NoBlank : List ℕ → Type 0
NoBlank word = AllByRecursion (λ b. is_blank b ≡ false) word

-- from this state on, the first word is whole exactly if its remaining bytes are these letters
abbrev TellsWord : FirstWord → List ℕ → Type 0
TellsWord state letters = (word rest : List ℕ) → NoBlank word → EndsWord rest → is_whole (scanned_on state (word ++ rest)) ≡ bytes_eq letters word

return_is_no_blank : (b : ℕ) → is_blank b ≡ true → b ≡ 13 → ⊥
return_is_no_blank b blank is = let not_so : is_blank b ≡ false = ap is_blank is in both_ways (is_blank b) not_so blank

-- after `load` or `adopt` and a blank, the first word stays whole
after_blank : (b : ℕ) (bs : List ℕ) → is_blank b ≡ true → is_whole (scanned_on (scanned_byte Whole b) bs) ≡ true
after_blank b bs blank = elim (cases_Bool (b == 13)) [
  | inl t ↦ absurd (return_is_no_blank b blank (eqb-true b 13 t))
  | inr f ↦ rw (f, blank) (over bs)
]

after_letter : (b : ℕ) (bs : List ℕ) → is_blank b ≡ false → is_whole (scanned_on (scanned_byte Whole b) bs) ≡ false
after_letter b bs letter = elim (cases_Bool (b == 13)) [
  | inl t ↦ rw t (returned bs)
  | inr f ↦ rw (f, letter) (other bs)
]

all_letters : TellsWord Whole []
all_letters [] [] not_so ends = refl
all_letters [] (b ∷ rest) not_so ends = after_blank b rest ends
all_letters (a ∷ word) rest not_so ends = after_letter a (word ++ rest) not_so.0

module _ (state longer : FirstWord) (letter : ℕ) (letters : List ℕ) (step : (b : ℕ) → scanned_byte state b ≡ next_letter letter b longer)
    (is_letter : is_blank letter ≡ false) (too_short : is_whole state ≡ false) (more : TellsWord longer letters) where
  wrong : (b : ℕ) (bs : List ℕ) → (b == letter) ≡ false → is_whole (scanned_on (scanned_byte state b) bs) ≡ false
  wrong b bs not_so = ap (λ w. is_whole (scanned_on w bs)) (step b ∙ ap (λ t. if t then longer else Other) not_so) ∙ other bs

  right : (b : ℕ) (bs : List ℕ) → (b == letter) ≡ true → is_whole (scanned_on (scanned_byte state b) bs) ≡ is_whole (scanned_on longer bs)
  right b bs is_so = ap (λ w. is_whole (scanned_on w bs)) (step b ∙ ap (λ t. if t then longer else Other) is_so)

  no_letter : (b : ℕ) → is_blank b ≡ true → (b == letter) ≡ false
  no_letter b blank = ne_eqb b letter (λ is. both_ways (is_blank b) (ap is_blank is ∙ is_letter) blank)

  one_letter : TellsWord state (letter ∷ letters)
  one_letter [] [] not_so ends = too_short
  one_letter [] (b ∷ rest) not_so ends = wrong b rest (no_letter b ends)
  one_letter (a ∷ word) rest not_so ends = elim (cases_Bool (a == letter)) [
    | inl t ↦ right a (word ++ rest) t ∙ more word rest not_so.1 ends ∙ sym (ap (λ t. t && bytes_eq letters word) (eq-eqb letter a (sym (eqb-true a letter t))))
    | inr f ↦ wrong a (word ++ rest) f ∙ sym (ap (λ t. t && bytes_eq letters word) (ne_eqb letter a (λ is. eqb-false a letter f (sym is))))
  ]

after_loa : TellsWord Loa (100 ∷ [])
after_loa = one_letter Loa Whole 100 [] (λ b. refl) refl refl all_letters

after_lo : TellsWord Lo (97 ∷ 100 ∷ [])
after_lo = one_letter Lo Loa 97 (100 ∷ []) (λ b. refl) refl refl after_loa

after_l : TellsWord L (111 ∷ 97 ∷ 100 ∷ [])
after_l = one_letter L Lo 111 (97 ∷ 100 ∷ []) (λ b. refl) refl refl after_lo

after_adop : TellsWord Adop (116 ∷ [])
after_adop = one_letter Adop Whole 116 [] (λ b. refl) refl refl all_letters

after_ado : TellsWord Ado (112 ∷ 116 ∷ [])
after_ado = one_letter Ado Adop 112 (116 ∷ []) (λ b. refl) refl refl after_adop

after_ad : TellsWord Ad (111 ∷ 112 ∷ 116 ∷ [])
after_ad = one_letter Ad Ado 111 (112 ∷ 116 ∷ []) (λ b. refl) refl refl after_ado

after_a : TellsWord A (100 ∷ 111 ∷ 112 ∷ 116 ∷ [])
after_a = one_letter A Ad 100 (111 ∷ 112 ∷ 116 ∷ []) (λ b. refl) refl refl after_ad

-- the state after the first letter, by whether the letter is l and whether it is a
abbrev first_of : Bool → Bool → FirstWord
first_of l a = if l then L else if a then A else Other

first_letter : (b : ℕ) → is_blank b ≡ false → scanned_byte Nothing b ≡ first_of (b == 108) (b == 97)
first_letter b not_so = ap (λ t. if t then Nothing else first_of (b == 108) (b == 97)) not_so

-- the rest of the word completes `load` if l is true, or `adopt` if a is true
abbrev either : Bool → Bool → List ℕ → Bool
either l a word = (l && bytes_eq (111 ∷ 97 ∷ 100 ∷ []) word) || (a && bytes_eq (100 ∷ 111 ∷ 112 ∷ 116 ∷ []) word)

or_false : (b : Bool) → (b || false) ≡ b
or_false true = refl
or_false false = refl

by_letter : (word rest : List ℕ) → NoBlank word → EndsWord rest → (l a : Bool) → (l ≡ true → a ≡ false) → is_whole (scanned_on (first_of l a) (word ++ rest)) ≡ either l a word
by_letter word rest free ends true a apart =
    after_l word rest free ends ∙ sym (or_false (bytes_eq (111 ∷ 97 ∷ 100 ∷ []) word))
    ∙ ap (λ t. bytes_eq (111 ∷ 97 ∷ 100 ∷ []) word || (t && bytes_eq (100 ∷ 111 ∷ 112 ∷ 116 ∷ []) word)) (sym (apart refl))
by_letter word rest free ends false true apart = after_a word rest free ends
by_letter word rest free ends false false apart = other (word ++ rest)

turned : (a b : ℕ) → (a == b) ≡ (b == a)
turned a b = elim (cases_Bool (a == b)) [
  | inl t ↦ t ∙ sym (eq-eqb b a (sym (eqb-true a b t)))
  | inr f ↦ f ∙ sym (ne_eqb b a (λ is. eqb-false a b f (sym is)))
]

whole_word : (word rest : List ℕ) → IsWord word → EndsWord rest → is_whole (scanned_on Nothing (word ++ rest)) ≡ bytes_eq (codes "load") word || bytes_eq (codes "adopt") word
whole_word [] rest is ends = absurd (omega (arith, is.0))
whole_word (a ∷ word) rest is ends =
    let apart : (a == 108) ≡ true → (a == 97) ≡ false = λ t. ne_eqb a 97 (λ e. omega (arith, e, eqb-true a 108 t)) in
    ap (λ w. is_whole (scanned_on w (word ++ rest))) (first_letter a is.1.0) ∙ by_letter word rest is.1.1 ends (a == 108) (a == 97) apart
    ∙ ap (λ t. either t (a == 97) word) (turned a 108) ∙ ap (λ t. either (108 == a) t word) (turned a 97)

blanks : (gap : List ℕ) → is_blank_line gap ≡ true → scan_of gap ≡ Nothing
blanks [] all = refl
blanks (b ∷ bs) all = elim (cases_Bool (is_blank b)) [
  | inl t ↦ rw t (blanks bs (rw t at all))
  | inr f ↦ absurd (both_ways (is_blank_line (b ∷ bs)) (ap (λ t. t && is_blank_line bs) f) all)
]

made : (line : List ℕ) (words : List (List ℕ)) → ConsistsOfWords line words → is_whole (scan_of line) ≡ announces_text words
made line [] is = ap is_whole (blanks line is)
made line (word ∷ words) is =
    ap (λ l. is_whole (scan_of l)) is.2 ∙ ap is_whole (scanned_append Nothing is.0 (word ++ is.1)) ∙ ap (λ w. is_whole (scanned_on w (word ++ is.1))) (blanks is.0 is.3)
    ∙ whole_word word is.1 is.4 is.5

-- ---- a carriage return at the end of the line
one_of : (b : Bool) (x y : FirstWord) → is_announcement x ≡ is_whole x → is_announcement y ≡ is_whole y → is_announcement (if b then x else y) ≡ is_whole (if b then x else y)
one_of true x y sx sy = sx
one_of false x y sx sy = sy

no_return : (w : FirstWord) (b : ℕ) → (b == 13) ≡ false → is_announcement (scanned_byte w b) ≡ is_whole (scanned_byte w b)
no_return Nothing b not_so =
    one_of (is_blank b) Nothing (if b == 108 then L else next_letter 97 b A) refl (one_of (b == 108) L (next_letter 97 b A) refl (one_of (b == 97) A Other refl refl))
no_return L b not_so = one_of (b == 111) Lo Other refl refl
no_return Lo b not_so = one_of (b == 97) Loa Other refl refl
no_return Loa b not_so = one_of (b == 100) Whole Other refl refl
no_return A b not_so = one_of (b == 100) Ad Other refl refl
no_return Ad b not_so = one_of (b == 111) Ado Other refl refl
no_return Ado b not_so = one_of (b == 112) Adop Other refl refl
no_return Adop b not_so = one_of (b == 116) Whole Other refl refl
no_return Whole b not_so = rw not_so (one_of (is_blank b) Over Other refl refl)
no_return WholeAndReturn b not_so = refl
no_return Over b not_so = refl
no_return Other b not_so = refl

with_return : (w : FirstWord) → is_announcement (scanned_byte w 13) ≡ is_whole w
with_return Nothing = refl
with_return L = refl
with_return Lo = refl
with_return Loa = refl
with_return A = refl
with_return Ad = refl
with_return Ado = refl
with_return Adop = refl
with_return Whole = refl
with_return WholeAndReturn = refl
with_return Over = refl
with_return Other = refl

record Ending (line : List ℕ) : Type 0 where
  prefix : List ℕ
  byte : ℕ
  whole : line ≡ prefix ++ byte ∷ []

ending : (b : ℕ) (bs : List ℕ) → Ending (b ∷ bs)
ending b [] = record { prefix = []; byte = b; whole = refl }
ending b (c ∷ cs) = let e = ending c cs in record { prefix = b ∷ e.prefix; byte = e.byte; whole = ap (λ l. b ∷ l) e.whole }

len_before : (prefix : List ℕ) (b : ℕ) → length (prefix ++ b ∷ []) - 1 ≡ length prefix
len_before prefix b = omega (arith, length-append prefix (b ∷ []))

stripped : (prefix : List ℕ) (b : ℕ) → strip_carriage_return (prefix ++ b ∷ []) ≡ (if b == 13 then prefix else prefix ++ b ∷ [])
stripped prefix b =
    let line = prefix ++ b ∷ [] in
    ap (λ n. if slice_index line n == 13 then take n line else line) (len_before prefix b)
    ∙ ap (λ x. if x == 13 then take (length prefix) line else line) (get_or_at prefix b [] 0 (length prefix) refl)
    ∙ ap (λ f. if b == 13 then f else line) (take-append_seam prefix (b ∷ []))

at_end : (prefix : List ℕ) (b : ℕ) → is_announcement (scan_of (prefix ++ b ∷ [])) ≡ is_whole (scan_of (strip_carriage_return (prefix ++ b ∷ [])))
at_end prefix b = elim (cases_Bool (b == 13)) [
  | inl t ↦ (
      ap is_announcement (scanned_append Nothing prefix (b ∷ [])) ∙ ap (λ c. is_announcement (scanned_byte (scan_of prefix) c)) (eqb-true b 13 t) ∙ with_return (scan_of prefix)
      ∙ sym (ap (λ l. is_whole (scan_of l)) (stripped prefix b ∙ ap (λ t. if t then prefix else prefix ++ b ∷ []) t)))
  | inr f ↦ (
      ap is_announcement (scanned_append Nothing prefix (b ∷ [])) ∙ no_return (scan_of prefix) b f ∙ sym (ap is_whole (scanned_append Nothing prefix (b ∷ [])))
      ∙ sym (ap (λ l. is_whole (scan_of l)) (stripped prefix b ∙ ap (λ t. if t then prefix else prefix ++ b ∷ []) f)))
]

without_return : (piece : List ℕ) → is_announcement (scan_of piece) ≡ is_whole (scan_of (strip_carriage_return piece))
without_return [] = refl
without_return (b ∷ bs) = let e = ending b bs in subst (λ l. is_announcement (scan_of l) ≡ is_whole (scan_of (strip_carriage_return l))) (sym e.whole) (at_end e.prefix e.byte)

pub says_first_word : LinesSplitIntoWords → (piece : List ℕ) → is_announcement (scan_of piece) ≡ announces_text (words_of (strip_carriage_return piece))
says_first_word made_of piece =
    let line = strip_carriage_return piece in
    without_return piece ∙ made line (words_of line) ((made_of line (words_of line)).0 refl)

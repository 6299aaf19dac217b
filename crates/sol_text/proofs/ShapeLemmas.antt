-- The parts of route lines and of cost lines determine the rest of the line after each part, and conversely.
use Rattle.std.proofs.Common.{
  ◌≡◌,
  ℕ,
  ◌<◌,
  Bool,
  true,
  false,
  ◌||◌,
  inl,
  inr,
  eqb,
  List,
  [],
  ◌∷◌,
  ◌++◌,
  length,
  take,
  drop,
  map,
  Some,
  None,
  refl,
  sym,
  ap,
  subst,
  ◌∙◌,
  arith,
  ⊎_elim,
  length-take,
  length-append,
}
use Rattle.std.specs.Prelude.{◌↔◌, codes, nat_le, nat_lt}
use Rattle.std.specs.Char.{is_ascii_digit, to_ascii_lowercase}
use Rattle.std.specs.List.{list_all, prefix_len}
use Rattle.std.specs.Option.{option_and_then}
use Rattle.std.proofs.lemmas.Bool.{and_from, and_parts, cases_lt, eq-eqb, eqb-true, false≢true, leb-true, lt-ltb, ltb-true, ne_eqb, or_cases}
use Rattle.std.proofs.lemmas.Bool.Decides.{eqb_tells}
use Rattle.std.proofs.lemmas.List.{append_assoc, drop_all, drop_at, drop_more, take-append-drop}
use Rattle.std.proofs.lemmas.List.Folds.{list_all-append}
use Rattle.std.proofs.lemmas.List.Sums.{prefix_len_stops}
use Rattle.std.proofs.lemmas.Option.{cond_some, option_and_then_some}
use Rattle.text_lines.specs.Words.{EndsWord, ConsistsOfWords, IsWord, is_blank, is_blank_line, words_of}
use Rattle.text_lines.specs.Numbers.{is_digits}
use Rattle.text_lines.proofs.PrefixLemmas.{digit_no_blank}
use Rattle.text_lines.proofs.NumberLemmas.{front_passes}
use Rattle.sol_text.specs.LineShapes.{after_blanks, after_colon, after_digits, after_key, after_optional_mark, after_separator, cost_tail, cost_word, only_word, route_tail}
use Rattle.sol_text.specs.Laws.{IsCostLine, IsOptionalMark, IsRouteLine, begins_with_colon}

none_some : {X : Type 0} {x : X} → None ≡ Some x → ⊥
none_some h = cc

some_same : {X : Type 0} {x y : X} → Some x ≡ Some y → x ≡ y
some_same h = cc

-- ---- a prefix that passes a test, and the rest
-- a rest that is empty or begins with an element that does not pass
abbrev StartsOther : (ℕ → Bool) → List ℕ → Type 0
StartsOther p [] = Unit {0}
StartsOther p (b ∷ text) = p b ≡ false

rest_is_other : (p : ℕ → Bool) (text : List ℕ) → StartsOther p (drop (prefix_len p text) text)
rest_is_other p text =
    let n = prefix_len p text in
    ⊎_elim
    (λ more. subst (StartsOther p) (sym (drop_more text n 0 more)) (prefix_len_stops p text 0 more))
    (λ all. subst (StartsOther p) (sym (drop_all n text all)) tt)
    (cases_lt n (length text))

front_length : (p : ℕ → Bool) (front rest : List ℕ) → list_all p front ≡ true → StartsOther p rest → prefix_len p (front ++ rest) ≡ length front
front_length p [] [] is other = refl
front_length p [] (b ∷ rest) is other = rw other refl
front_length p (b ∷ front) rest is other =
    let parts = and_parts (p b) (list_all p front) is in
    rw (parts.0, front_length p front rest parts.1 other) (omega arith)

-- ---- a key
key_from_after : (key text rest : List ℕ) → after_key key text ≡ Some rest
    → (letters : List ℕ) × (map to_ascii_lowercase letters ≡ key) × (text ≡ letters ++ rest)
key_from_after [] text rest is = ([], refl, some_same is)
key_from_after (c ∷ key) [] rest is = absurd (none_some is)
key_from_after (c ∷ key) (b ∷ text) rest is =
    elim (eqb_tells (to_ascii_lowercase b) c) [
      | inl t ↦ more (key_from_after key text rest (rw t.0 at is)) t.1
      | inr t ↦ absurd (none_some (rw t.0 at is))
    ]
  where
    more : ((letters : List ℕ) × (map to_ascii_lowercase letters ≡ key) × (text ≡ letters ++ rest)) → to_ascii_lowercase b ≡ c
        → (letters : List ℕ) × (map to_ascii_lowercase letters ≡ c ∷ key) × (b ∷ text ≡ letters ++ rest)
    more (letters, same, whole) letter = (b ∷ letters, ap (λ l. l ∷ map to_ascii_lowercase letters) letter ∙ ap (λ k. c ∷ k) same, ap (λ t. b ∷ t) whole)

after_key_is : (letters rest : List ℕ) → after_key (map to_ascii_lowercase letters) (letters ++ rest) ≡ Some rest
after_key_is [] rest = refl
after_key_is (b ∷ letters) rest = rw (eq-eqb (to_ascii_lowercase b) (to_ascii_lowercase b) refl) (after_key_is letters rest)

pub key_is : (key letters rest : List ℕ) → map to_ascii_lowercase letters ≡ key → after_key key (letters ++ rest) ≡ Some rest
key_is key letters rest same = subst (λ k. after_key k (letters ++ rest) ≡ Some rest) same (after_key_is letters rest)

-- a text that is too short has no key
pub key_short : (key text : List ℕ) → length text < length key → after_key (map to_ascii_lowercase key) text ≡ None
key_short [] text short = absurd (omega arith)
key_short (c ∷ key) [] short = refl
key_short (c ∷ key) (b ∷ text) short =
    let rest = key_short key text (omega arith) in
    elim (eqb_tells (to_ascii_lowercase b) (to_ascii_lowercase c)) [ inl t ↦ rw t.0 rest | inr t ↦ rw t.0 refl ]

-- a text that begins with other letters does not have the key
pub key_other : (key front rest : List ℕ) → length front ≡ length key → (map to_ascii_lowercase front ≡ map to_ascii_lowercase key → ⊥)
    → after_key (map to_ascii_lowercase key) (front ++ rest) ≡ None
key_other [] [] rest same other = absurd (other refl)
key_other [] (b ∷ front) rest same other = absurd (omega (arith, same))
key_other (c ∷ key) [] rest same other = absurd (omega (arith, same))
key_other (c ∷ key) (b ∷ front) rest same other =
    elim (eqb_tells (to_ascii_lowercase b) (to_ascii_lowercase c)) [
      | inl t ↦ rw t.0
          (key_other key front rest (omega (arith, same))
          (λ e. other (ap (λ l. l ∷ map to_ascii_lowercase front) t.1 ∙ ap (λ ls. to_ascii_lowercase c ∷ ls) e)))
      | inr t ↦ rw t.0 refl
    ]

-- ---- blanks, a mark, digits, a colon
blanks_whole : (text : List ℕ) → text ≡ take (prefix_len is_blank text) text ++ after_blanks text
blanks_whole text = sym (take-append-drop (prefix_len is_blank text) text)

after_blanks_is : (gap rest : List ℕ) → is_blank_line gap ≡ true → StartsOther is_blank rest → after_blanks (gap ++ rest) ≡ rest
after_blanks_is gap rest blank other = rw (front_length is_blank gap rest blank other, drop_at gap rest (length gap) refl) refl

mark_of : (mark : ℕ) (text : List ℕ) → (front : List ℕ) × (text ≡ front ++ after_optional_mark mark text) × IsOptionalMark mark front
mark_of mark [] = ([], refl, inl refl)
mark_of mark (b ∷ text) =
    elim (eqb_tells b mark) [
      | inl t ↦ (mark ∷ [], rw t.0 (ap (λ c. c ∷ text) t.1), inr refl)
      | inr t ↦ ([], rw t.0 refl, inl refl)
    ]

digits_from_after : (text rest : List ℕ) → after_digits text ≡ Some rest → (ds : List ℕ) × (is_digits ds ≡ true) × (text ≡ ds ++ rest)
unfolding is_digits
digits_from_after [] rest is = absurd (none_some is)
digits_from_after (b ∷ text) rest is =
    let n = prefix_len is_ascii_digit (b ∷ text) in
    let both = cond_some (nat_lt 0 n) (drop n (b ∷ text)) rest is in (
      take n (b ∷ text),
      some_digits (take n (b ∷ text)) (omega (arith, length-take n (b ∷ text), ltb-true 0 n both.0)) (front_passes is_ascii_digit (b ∷ text)),
      sym (take-append-drop n (b ∷ text)) ∙ ap (λ r. take n (b ∷ text) ++ r) both.1,
    )
  where
    some_digits : (ds : List ℕ) → 0 < length ds → list_all is_ascii_digit ds ≡ true → is_digits ds ≡ true
    some_digits [] some is = absurd (omega arith)
    some_digits (d ∷ ds) some is = is

pub all_digits : (ds : List ℕ) → is_digits ds ≡ true → (0 < length ds) × (list_all is_ascii_digit ds ≡ true)
unfolding is_digits
all_digits [] is = absurd (false≢true is)
all_digits (d ∷ ds) is = (omega arith, is)

after_digits_is : (ds rest : List ℕ) → is_digits ds ≡ true → StartsOther is_ascii_digit rest → after_digits (ds ++ rest) ≡ Some rest
after_digits_is ds rest is other =
    let all = all_digits ds is in
    rw (front_length is_ascii_digit ds rest all.1 other, lt-ltb 0 (length ds) all.0, drop_at ds rest (length ds) refl) refl

colon_from_after : (text rest : List ℕ) → after_colon text ≡ Some rest → text ≡ 58 ∷ rest
colon_from_after [] rest is = absurd (none_some is)
colon_from_after (b ∷ text) rest is =
    let both = cond_some (eqb b 58) text rest is in ap (λ c. c ∷ text) (eqb-true b 58 both.0) ∙ ap (λ t. 58 ∷ t) both.1

-- ---- a byte is of one kind
digit_not_mark : (b : ℕ) → is_ascii_digit b ≡ true → eqb b 35 ≡ false
digit_not_mark b is = let range = leb-true 48 b (and_parts (nat_le 48 b) (nat_le b 57) is).0 in ne_eqb b 35 (λ e. absurd (omega (arith, range, e)))

blank_not_digit : (b : ℕ) → is_blank b ≡ true → is_ascii_digit b ≡ false
blank_not_digit b is =
    elim (or_cases (eqb b 32) (eqb b 9) is) [
      | inl e ↦ rw (eqb-true b 32 e) refl
      | inr e ↦ rw (eqb-true b 9 e) refl
    ]

number_not_blank : (ds rest : List ℕ) → is_digits ds ≡ true → StartsOther is_blank (ds ++ rest)
unfolding is_digits
number_not_blank [] rest is = absurd (false≢true is)
number_not_blank (d ∷ ds) rest is = digit_no_blank d (and_parts (is_ascii_digit d) (list_all is_ascii_digit ds) is).0

number_not_mark : (ds rest : List ℕ) → is_digits ds ≡ true → after_optional_mark 35 (ds ++ rest) ≡ ds ++ rest
unfolding is_digits
number_not_mark [] rest is = absurd (false≢true is)
number_not_mark (d ∷ ds) rest is = rw (digit_not_mark d (and_parts (is_ascii_digit d) (list_all is_ascii_digit ds) is).0) refl

no_digit_first : (gap tail : List ℕ) → is_blank_line gap ≡ true → StartsOther is_ascii_digit (gap ++ 58 ∷ tail)
no_digit_first [] tail blank = refl
no_digit_first (b ∷ gap) tail blank = blank_not_digit b (and_parts (is_blank b) (is_blank_line gap) blank).0

-- ---- a route line
pub route_line_from_tail : (line tail : List ℕ) → route_tail line ≡ Some tail → IsRouteLine line tail
unfolding route_tail
route_line_from_tail line tail is =
    option_and_then_some (λ more. after_colon (after_blanks more)) _ tail is (λ more was colon.
    option_and_then_some (λ more. after_digits (after_blanks (after_optional_mark 35 (after_blanks more)))) _ more was (λ rest keyed numbered.
    parts more rest (key_from_after (codes "route") line rest keyed) (mark_of 35 (after_blanks rest))
    (digits_from_after (after_blanks (after_optional_mark 35 (after_blanks rest))) more numbered) (colon_from_after (after_blanks more) tail colon)))
  where
    parts : (more rest : List ℕ)
        → (letters : List ℕ) × (map to_ascii_lowercase letters ≡ codes "route") × (line ≡ letters ++ rest)
        → (front : List ℕ) × (after_blanks rest ≡ front ++ after_optional_mark 35 (after_blanks rest)) × IsOptionalMark 35 front
        → (ds : List ℕ) × (is_digits ds ≡ true) × (after_blanks (after_optional_mark 35 (after_blanks rest)) ≡ ds ++ more)
        → after_blanks more ≡ 58 ∷ tail → IsRouteLine line tail
    parts more rest (key, is_key, keyed) (mark, marked, is_mark) (number, is_number, numbered) colon =
        let unmarked = after_optional_mark 35 (after_blanks rest) in
        let gap = take (prefix_len is_blank rest) rest in
        let gap2 = take (prefix_len is_blank unmarked) unmarked in
        let gap3 = take (prefix_len is_blank more) more in
        let last : more ≡ gap3 ++ 58 ∷ tail = blanks_whole more ∙ ap (λ t. gap3 ++ t) colon in
        let following : unmarked ≡ gap2 ++ (number ++ (gap3 ++ 58 ∷ tail)) = blanks_whole unmarked ∙ ap (λ t. gap2 ++ t) (numbered ∙ ap (λ t. number ++ t) last) in
        record {
          key = key;
          before_mark = gap;
          mark = mark;
          before_number = gap2;
          number = number;
          before_colon = gap3;
          whole = keyed ∙ ap (λ t. key ++ t) (blanks_whole rest ∙ ap (λ t. gap ++ t) (marked ∙ ap (λ t. mark ++ t) following));
          is_key = is_key;
          blank_mark = front_passes is_blank rest;
          is_mark = is_mark;
          blank_number = front_passes is_blank unmarked;
          is_number = is_number;
          blank_colon = front_passes is_blank more;
        }

blanks_append : (a b : List ℕ) → is_blank_line a ≡ true → is_blank_line b ≡ true → is_blank_line (a ++ b) ≡ true
blanks_append a b p q = list_all-append is_blank a b ∙ and_from (is_blank_line a) (is_blank_line b) p q

-- the rest after blanks, an optional mark and blanks, if it begins neither with a blank nor with the mark
after_mark_is : (mark : ℕ) (gap front gap2 rest : List ℕ) → is_blank mark ≡ false → is_blank_line gap ≡ true → IsOptionalMark mark front → is_blank_line gap2 ≡ true
    → StartsOther is_blank rest → after_optional_mark mark rest ≡ rest → after_blanks (after_optional_mark mark (after_blanks (gap ++ (front ++ (gap2 ++ rest))))) ≡ rest
after_mark_is mark gap front gap2 rest solid blank (inl none) blank2 other unmarked =
    let joined : gap ++ (front ++ (gap2 ++ rest)) ≡ (gap ++ gap2) ++ rest = ap (λ f. gap ++ (f ++ (gap2 ++ rest))) none ∙ sym (append_assoc gap gap2 rest) in
    ap (λ t. after_blanks (after_optional_mark mark (after_blanks t))) joined
    ∙ ap (λ t. after_blanks (after_optional_mark mark t)) (after_blanks_is (gap ++ gap2) rest (blanks_append gap gap2 blank blank2) other)
    ∙ ap after_blanks unmarked
    ∙ after_blanks_is [] rest refl other
after_mark_is mark gap front gap2 rest solid blank (inr some) blank2 other unmarked =
    ap (λ f. after_blanks (after_optional_mark mark (after_blanks (gap ++ (f ++ (gap2 ++ rest)))))) some
    ∙ ap (λ t. after_blanks (after_optional_mark mark t)) (after_blanks_is gap (mark ∷ (gap2 ++ rest)) blank solid)
    ∙ ap after_blanks (drops (gap2 ++ rest))
    ∙ after_blanks_is gap2 rest blank2 other
  where
    drops : (text : List ℕ) → after_optional_mark mark (mark ∷ text) ≡ text
    drops text = rw (eq-eqb mark mark refl) refl

pub route_tail_from_line : (line tail : List ℕ) → IsRouteLine line tail → route_tail line ≡ Some tail
unfolding route_tail
route_tail_from_line line tail is =
    let last = is.before_colon ++ 58 ∷ tail in
    let rest = is.before_mark ++ (is.mark ++ (is.before_number ++ (is.number ++ last))) in
    let numbered =
    after_mark_is 35 is.before_mark is.mark is.before_number (is.number ++ last) refl is.blank_mark is.is_mark is.blank_number
    (number_not_blank is.number last is.is_number) (number_not_mark is.number last is.is_number) in
    ap route_tail is.whole
    ∙ ap
    (λ o. option_and_then (λ more. after_colon (after_blanks more))
    (option_and_then (λ more. after_digits (after_blanks (after_optional_mark 35 (after_blanks more)))) o))
    (key_is (codes "route") is.key rest is.is_key)
    ∙ ap (λ t. option_and_then (λ more. after_colon (after_blanks more)) (after_digits t)) numbered
    ∙ ap (λ o. option_and_then (λ more. after_colon (after_blanks more)) o)
    (after_digits_is is.number last is.is_number (no_digit_first is.before_colon tail is.blank_colon))
    ∙ ap after_colon (after_blanks_is is.before_colon (58 ∷ tail) is.blank_colon refl)

-- ---- a cost line
-- the text begins neither with a blank nor with a colon
abbrev StartsBare : List ℕ → Type 0
StartsBare [] = Unit {0}
StartsBare (b ∷ text) = (is_blank b ≡ false) × (eqb b 58 ≡ false)

record Separates (rest tail : List ℕ) : Type 0 where
  gap : List ℕ
  colon : List ℕ
  whole : rest ≡ gap ++ (colon ++ tail)
  blank : is_blank_line gap ≡ true
  is_colon : IsOptionalMark 58 colon
  separated : 0 < length (gap ++ colon)
  bare : colon ≡ [] → StartsBare tail

separates_from_after : (rest tail : List ℕ) → after_separator rest ≡ Some tail → Separates rest tail
separates_from_after [] tail is = absurd (none_some is)
separates_from_after (b ∷ text) tail is =
    let both = cond_some (is_blank b || eqb b 58) (after_optional_mark 58 (after_blanks (b ∷ text))) tail is in
    let gap = take (prefix_len is_blank (b ∷ text)) (b ∷ text) in
    subst (Separates (b ∷ text)) both.1
    (by_body (after_blanks (b ∷ text)) gap (blanks_whole (b ∷ text)) (front_passes is_blank (b ∷ text)) (rest_is_other is_blank (b ∷ text)) both.0)
  where
    some_gap : (gap body : List ℕ) → b ∷ text ≡ gap ++ body → is_blank b || eqb b 58 ≡ true → StartsBare body → 0 < length (gap ++ [])
    some_gap [] [] whole or bare = absurd (cc)
    some_gap [] (c ∷ body) whole or bare = let same : b ≡ c = cc in absurd (false≢true (rw (same, bare.0, bare.1) at or))
    some_gap (g ∷ gap) body whole or bare = omega arith

    by_body : (body gap : List ℕ) → b ∷ text ≡ gap ++ body → is_blank_line gap ≡ true → StartsOther is_blank body → is_blank b || eqb b 58 ≡ true
        → Separates (b ∷ text) (after_optional_mark 58 body)
    by_body [] gap whole blank other or = record {
      gap = gap;
      colon = [];
      whole = whole;
      blank = blank;
      is_colon = inl refl;
      separated = some_gap gap [] whole or tt;
      bare = λ _. tt;
    }
    by_body (c ∷ body) gap whole blank other or =
        elim (eqb_tells c 58) [
          | inl t ↦
              rw t.0
              (record {
                gap = gap;
                colon = 58 ∷ [];
                whole = whole ∙ ap (λ d. gap ++ d ∷ body) t.1;
                blank = blank;
                is_colon = inr refl;
                separated = omega (arith, length-append gap (58 ∷ []));
                bare = λ none. absurd (cc);
              })
          | inr t ↦
              rw t.0
              (record {
                gap = gap;
                colon = [];
                whole = whole;
                blank = blank;
                is_colon = inl refl;
                separated = some_gap gap (c ∷ body) whole or (other, t.0);
                bare = λ _. (other, t.0);
              })
        ]

only_from_word : (ws : List (List ℕ)) (word : List ℕ) → only_word ws ≡ Some word → ws ≡ word ∷ []
only_from_word [] word is = absurd (none_some is)
only_from_word (w ∷ []) word is = ap (λ v. v ∷ []) (some_same is)
only_from_word (w ∷ v ∷ ws) word is = absurd (none_some is)

bare_word : (before word following : List ℕ) → is_blank_line before ≡ true → 0 < length word → StartsBare (before ++ (word ++ following))
    → begins_with_colon word ≡ false
bare_word [] [] following blank some bare = absurd (omega arith)
bare_word [] (b ∷ word) following blank some bare = bare.1
bare_word (b ∷ before) word following blank some bare = absurd (false≢true (sym bare.0 ∙ (and_parts (is_blank b) (is_blank_line before) blank).0))

ends_word : (following : List ℕ) → is_blank_line following ≡ true → EndsWord following
ends_word [] blank = tt
ends_word (b ∷ following) blank = (and_parts (is_blank b) (is_blank_line following) blank).0

word_not_blank : (word rest : List ℕ) → IsWord word → StartsOther is_blank (word ++ rest)
word_not_blank [] rest is = absurd (omega (arith, is.0))
word_not_blank (b ∷ word) rest is = is.1.0

word_no_colon : (word rest : List ℕ) → IsWord word → begins_with_colon word ≡ false → after_optional_mark 58 (word ++ rest) ≡ word ++ rest
word_no_colon [] rest is bare = absurd (omega (arith, is.0))
word_no_colon (b ∷ word) rest is bare = rw bare refl

-- the rest after a separator, which is blanks, a colon, or blanks and a colon
separated_tail : (gap colon x y : List ℕ) → is_blank_line gap ≡ true → IsOptionalMark 58 colon → 0 < length (gap ++ colon)
    → after_optional_mark 58 (after_blanks (gap ++ (colon ++ x))) ≡ y → after_separator (gap ++ (colon ++ x)) ≡ Some y
separated_tail [] colon x y blank (inl none) some is = absurd (omega (arith, ap length none))
separated_tail [] colon x y blank (inr colon_is) some is = rw colon_is (ap Some (rw colon_is at is))
separated_tail (b ∷ gap) colon x y blank is_colon some is =
    let first = (and_parts (is_blank b) (is_blank_line gap) blank).0 in rw first (ap Some (rw first at is))

module _ (made_of : (line : List ℕ) (words : List (List ℕ)) → (words_of line ≡ words) ↔ ConsistsOfWords line words) where
  pub cost_line_from_word : (line word : List ℕ) → cost_word line ≡ Some word → IsCostLine line word
  unfolding cost_tail
  cost_line_from_word line word is =
      option_and_then_some (λ tail. only_word (words_of tail)) _ word is (λ tail was only.
      option_and_then_some after_separator _ tail was (λ rest keyed after.
      parts rest tail (key_from_after (codes "cost") line rest keyed) (separates_from_after rest tail after)
      ((made_of tail (word ∷ [])).0 (only_from_word (words_of tail) word only))))
    where
      parts : (rest tail : List ℕ) → (letters : List ℕ) × (map to_ascii_lowercase letters ≡ codes "cost") × (line ≡ letters ++ rest) → Separates rest tail
          → ConsistsOfWords tail (word ∷ []) → IsCostLine line word
      parts rest tail (key, is_key, keyed) s (before, following, whole, blank, is_word, ends, blank_after) = record {
        key = key;
        before_colon = s.gap;
        colon = s.colon;
        before_word = before;
        following = following;
        whole = keyed ∙ ap (λ t. key ++ t) (s.whole ∙ ap (λ t. s.gap ++ (s.colon ++ t)) whole);
        is_key = is_key;
        blank_colon = s.blank;
        is_colon = s.is_colon;
        separated = s.separated;
        blank_word = blank;
        is_word = is_word;
        bare = λ none. bare_word before word following blank is_word.0 (subst StartsBare whole (s.bare none));
        blank_after = blank_after;
      }

  tail_word : (before word following : List ℕ) → is_blank_line before ≡ true → IsWord word → is_blank_line following ≡ true
      → only_word (words_of (before ++ (word ++ following))) ≡ Some word
  tail_word before word following blank is_word blank_after =
      ap only_word ((made_of (before ++ (word ++ following)) (word ∷ [])).1 (before, following, refl, blank, is_word, ends_word following blank_after, blank_after))

  pub cost_word_from_line : (line word : List ℕ) → IsCostLine line word → cost_word line ≡ Some word
  unfolding cost_tail
  cost_word_from_line line word is =
      let last = is.before_word ++ (word ++ is.following) in
      let rest = is.before_colon ++ (is.colon ++ last) in
      ap cost_word is.whole
      ∙ ap (λ o. option_and_then (λ tail. only_word (words_of tail)) (option_and_then after_separator o)) (key_is (codes "cost") is.key rest is.is_key)
      ∙ by_colon is.is_colon
    where
      by_colon : IsOptionalMark 58 is.colon
          → option_and_then (λ tail. only_word (words_of tail)) (after_separator (is.before_colon ++ (is.colon ++ (is.before_word ++ (word ++ is.following)))))
          ≡ Some word
      by_colon (inl none) =
          ap (option_and_then (λ tail. only_word (words_of tail)))
          (separated_tail is.before_colon is.colon (is.before_word ++ (word ++ is.following)) (word ++ is.following) is.blank_colon (inl none) is.separated
          (ap (λ c. after_optional_mark 58 (after_blanks (is.before_colon ++ (c ++ (is.before_word ++ (word ++ is.following)))))) none
          ∙ ap (λ t. after_optional_mark 58 (after_blanks t)) (sym (append_assoc is.before_colon is.before_word (word ++ is.following)))
          ∙ ap (after_optional_mark 58)
          (after_blanks_is (is.before_colon ++ is.before_word) (word ++ is.following)
          (blanks_append is.before_colon is.before_word is.blank_colon is.blank_word) (word_not_blank word is.following is.is_word))
          ∙ word_no_colon word is.following is.is_word (is.bare none)))
          ∙ tail_word [] word is.following refl is.is_word is.blank_after
      by_colon (inr some) =
          ap (option_and_then (λ tail. only_word (words_of tail)))
          (separated_tail is.before_colon is.colon (is.before_word ++ (word ++ is.following)) (is.before_word ++ (word ++ is.following)) is.blank_colon
          (inr some) is.separated
          (ap (λ c. after_optional_mark 58 (after_blanks (is.before_colon ++ (c ++ (is.before_word ++ (word ++ is.following)))))) some
          ∙ ap (after_optional_mark 58) (after_blanks_is is.before_colon (58 ∷ (is.before_word ++ (word ++ is.following))) is.blank_colon refl)))
          ∙ tail_word is.before_word word is.following is.blank_word is.is_word is.blank_after

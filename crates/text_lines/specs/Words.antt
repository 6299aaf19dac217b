-- The words of a line.
use Rattle.std.specs.Prelude.{◌≡◌, ◌↔◌, ℕ, ◌<◌, Bool, true, false, ◌==◌, ◌||◌, nat_lt, List, [], ◌∷◌, ◌++◌, length, filter}
use Rattle.std.specs.List.{AllByRecursion, list_all, slice_split}

-- a space or a tab
abbrev pub is_blank : ℕ → Bool
is_blank b = b == 32 || b == 9

abbrev pub is_not_empty : List ℕ → Bool
is_not_empty word = nat_lt 0 (length word)

-- the nonempty parts between spaces and tabs
unfoldable pub words_of : List ℕ → List (List ℕ)
words_of line = filter is_not_empty (slice_split is_blank line)

-- the line has only spaces and tabs
abbrev pub is_blank_line : List ℕ → Bool
is_blank_line line = list_all is_blank line

-- one or more bytes, none of them a blank
abbrev pub IsWord : List ℕ → Type 0
IsWord word = (0 < length word) × AllByRecursion (λ b. is_blank b ≡ false) word

-- nothing, or a blank and anything after it
abbrev pub EndsWord : List ℕ → Type 0
EndsWord [] = Unit {0}
EndsWord (b ∷ rest) = is_blank b ≡ true

-- the line is these words in order, with blanks between them, and optionally before the first and after the
-- last
abbrev pub ConsistsOfWords : List ℕ → List (List ℕ) → Type 0
ConsistsOfWords line [] = is_blank_line line ≡ true
ConsistsOfWords line (word ∷ words) =
    (gap : List ℕ) × (rest : List ℕ) × (line ≡ gap ++ (word ++ rest)) × (is_blank_line gap ≡ true) × IsWord word × EndsWord rest × ConsistsOfWords rest words

-- a list is the words of a line exactly if the line consists of these words
abbrev pub LinesSplitIntoWords : Type 0
LinesSplitIntoWords = (line : List ℕ) (words : List (List ℕ)) → (words_of line ≡ words) ↔ ConsistsOfWords line words

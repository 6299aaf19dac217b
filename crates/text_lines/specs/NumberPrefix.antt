-- Numbers at the beginning of a text.
use Rattle.std.specs.Prelude.{◌≡◌, ℕ, List, ◌∷◌, Some, ℤ}
use Rattle.text_lines.specs.Numbers.{number_of}
use Rattle.text_lines.specs.Words.{words_of}

-- the first word of the text is this number, and this rest has the other words
abbrev pub BeginsWithNumber : List ℕ → ℤ → List ℕ → Type 0
BeginsWithNumber text number rest = (word : List ℕ) × (words_of text ≡ word ∷ words_of rest) × (number_of word ≡ Some number)

-- The lines of a text that are read.
use Rattle.std.specs.Prelude.{ℕ, ◌+◌, if◌then◌else◌, List, [], ◌∷◌}
use Rattle.text_lines.specs.Lines.{lines_of}
use Rattle.text_lines.specs.Words.{is_blank_line}

-- a line and its number in the text
pub record Row : Type 0 where
  pub line : ℕ
  pub text : List ℕ

-- the lines that are not blank, if the first line has number n
unfoldable pub rows_from : ℕ → List (List ℕ) → List Row
rows_from n [] = []
rows_from n (l ∷ ls) = if is_blank_line l then rows_from (n + 1) ls else record { line = n; text = l } ∷ rows_from (n + 1) ls

-- the lines of the text that are read; lines count from 1
abbrev pub rows_of : List ℕ → List Row
rows_of text = rows_from 1 (lines_of text)

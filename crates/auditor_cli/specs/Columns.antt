-- The columns of a line, separated by tabs.
use Rattle.std.specs.Prelude.{ℕ, ◌==◌, Bool, List, [], ◌∷◌, take, drop, Option, Some, None}
use Rattle.std.specs.List.{position_or_len}

-- The byte is a tab.
abbrev pub is_tab : ℕ → Bool
is_tab b = b == 9

-- The text before a tab, and the text after it, if the second list begins with that tab.
abbrev pub cut_at : List ℕ → List ℕ → Option (List ℕ × List ℕ)
cut_at front [] = None
cut_at front (tab ∷ rest) = Some (front, rest)

-- The text before the first tab and the text after it; none if there is no tab.
abbrev pub cut : List ℕ → Option (List ℕ × List ℕ)
cut text = let n = position_or_len is_tab text in cut_at (take n text) (drop n text)

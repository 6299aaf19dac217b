-- The grammar of route lines and of cost lines.
use Rattle.std.specs.Prelude.{◌≡◌, ℕ, ◌<◌, ◌==◌, Bool, true, false, ◌⊎◌, ◌↔◌, List, [], ◌∷◌, ◌++◌, length, map, Some, codes}
use Rattle.std.specs.Char.{to_ascii_lowercase}
use Rattle.text_lines.specs.Words.{IsWord, is_blank_line}
use Rattle.text_lines.specs.Numbers.{is_digits}
use Rattle.sol_text.specs.LineShapes.{cost_word, route_tail}

-- nothing, or this mark
abbrev pub IsOptionalMark : ℕ → List ℕ → Type 0
IsOptionalMark mark text = (text ≡ []) ⊎ (text ≡ mark ∷ [])

-- `Route` in any letter case, blanks, an optional `#`, blanks, digits, blanks, a colon, and the tail; any of
-- the blanks may be missing
pub record IsRouteLine (line tail : List ℕ) : Type 0 where
  pub key : List ℕ
  pub before_mark : List ℕ
  pub mark : List ℕ
  pub before_number : List ℕ
  pub number : List ℕ
  pub before_colon : List ℕ
  pub whole : line ≡ key ++ (before_mark ++ (mark ++ (before_number ++ (number ++ (before_colon ++ 58 ∷ tail)))))
  pub is_key : map to_ascii_lowercase key ≡ codes "route"
  pub blank_mark : is_blank_line before_mark ≡ true
  pub is_mark : IsOptionalMark 35 mark
  pub blank_number : is_blank_line before_number ≡ true
  pub is_number : is_digits number ≡ true
  pub blank_colon : is_blank_line before_colon ≡ true

abbrev pub begins_with_colon : List ℕ → Bool
begins_with_colon [] = false
begins_with_colon (b ∷ word) = b == 58

-- `Cost` in any letter case, a colon, blanks or both, and one word; the word begins with a colon only if
-- another colon precedes it
pub record IsCostLine (line word : List ℕ) : Type 0 where
  pub key : List ℕ
  pub before_colon : List ℕ
  pub colon : List ℕ
  pub before_word : List ℕ
  pub following : List ℕ
  pub whole : line ≡ key ++ (before_colon ++ (colon ++ (before_word ++ (word ++ following))))
  pub is_key : map to_ascii_lowercase key ≡ codes "cost"
  pub blank_colon : is_blank_line before_colon ≡ true
  pub is_colon : IsOptionalMark 58 colon
  pub separated : 0 < length (before_colon ++ colon)
  pub blank_word : is_blank_line before_word ≡ true
  pub is_word : IsWord word
  pub bare : colon ≡ [] → begins_with_colon word ≡ false
  pub blank_after : is_blank_line following ≡ true

-- a line is a route line exactly if it has the parts of `IsRouteLine`, and its customers are the words of the
-- tail
abbrev pub RouteLinesFollowGrammar : Type 0
RouteLinesFollowGrammar = (line tail : List ℕ) → (route_tail line ≡ Some tail) ↔ IsRouteLine line tail

-- a line is a cost line with this word exactly if it has the parts of `IsCostLine`
abbrev pub CostLinesFollowGrammar : Type 0
CostLinesFollowGrammar = (line word : List ℕ) → (cost_word line ≡ Some word) ↔ IsCostLine line word

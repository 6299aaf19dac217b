-- The key and the value of a `.vrp` line, from the parts of the line.
use Rattle.std.specs.Prelude.{◌≡◌, ℕ, true, false, ◌⊎◌, ◌↔◌, List, [], ◌++◌, codes, Contains, IfSome, None, slice_get}
use Rattle.std.specs.List.{last_or}
use Rattle.text_lines.specs.Words.{is_blank, is_blank_line}
use Rattle.instance_read.specs.VrpLines.{key_text, value_text}

-- the text does not begin with a blank
abbrev pub BeginsWithNonBlank : List ℕ → Type 0
BeginsWithNonBlank text = IfSome (slice_get text 0) (λ b. is_blank b ≡ false)

-- the text does not end with a blank
abbrev pub EndsWithNonBlank : List ℕ → Type 0
EndsWithNonBlank text = IfSome (last_or None text) (λ b. is_blank b ≡ false)

-- the text is blanks, this middle, and blanks, and the middle neither begins nor ends with a blank
pub record IsTrimmed (text middle : List ℕ) : Type 0 where
  pub before : List ℕ
  pub following : List ℕ
  pub whole : text ≡ before ++ (middle ++ following)
  pub blank_before : is_blank_line before ≡ true
  pub blank_after : is_blank_line following ≡ true
  pub begins : BeginsWithNonBlank middle
  pub ends : EndsWithNonBlank middle

abbrev pub HasNoColon : List ℕ → Type 0
HasNoColon text = ¬ Contains text 58

-- the line has a colon: the key is before the first colon and the value after it, each with or without blanks
-- around it
pub record IsKeyWithValue (line key value : List ℕ) : Type 0 where
  pub front : List ℕ
  pub back : List ℕ
  pub whole : line ≡ front ++ (codes ":" ++ back)
  pub first : HasNoColon front
  pub key_is : IsTrimmed front key
  pub value_is : IsTrimmed back value

-- a line without a colon is all key, and its value is empty
pub record IsKeyAlone (line key value : List ℕ) : Type 0 where
  pub none : HasNoColon line
  pub key_is : IsTrimmed line key
  pub value_is : value ≡ []

-- a line has this key and this value exactly if it consists of these parts
abbrev pub KeyLinesFollowGrammar : Type 0
KeyLinesFollowGrammar = (line key value : List ℕ)
    → ((key_text line ≡ key) × (value_text line ≡ value)) ↔ (IsKeyWithValue line key value ⊎ IsKeyAlone line key value)

-- Well-formed XML, of the plain kind that a picture is: one element that contains elements and letters. Each
-- opened element is closed by its own name, the last one first, and each attribute has a value in single
-- quotes.
use Rattle.std.specs.Prelude.{◌≡◌, ℕ, ◌==◌, nat_le, ◌&&◌, ◌||◌, not, Bool, if◌then◌else◌, List, [], ◌∷◌, ◌++◌}

-- the state of a reader after a prefix of the text; the lists have the names of the open elements, the
-- innermost first
pub data ReaderState : Type 0 where
  -- before the root element
  outside : ReaderState
  -- between tags
  inside : List (List ℕ) → ReaderState
  -- after `<`
  opened : List (List ℕ) → ReaderState
  -- in the name of a start tag
  named : List ℕ → List (List ℕ) → ReaderState
  -- after a space in a start tag
  spaced : List ℕ → List (List ℕ) → ReaderState
  -- in the name of an attribute
  attributed : List ℕ → List (List ℕ) → ReaderState
  -- after the `=` of an attribute
  equated : List ℕ → List (List ℕ) → ReaderState
  -- in the value of an attribute
  quoted : List ℕ → List (List ℕ) → ReaderState
  -- after the value of an attribute
  unquoted : List ℕ → List (List ℕ) → ReaderState
  -- after the `/` of an empty-element tag
  slashed : List (List ℕ) → ReaderState
  -- in an end tag, with the rest of its name
  closing : List ℕ → List (List ℕ) → ReaderState
  -- after the root element
  ended : ReaderState
  -- the text is not well-formed
  malformed : ReaderState

abbrev pub is_letter : ℕ → Bool
is_letter c = (nat_le 97 c && nat_le c 122) || (nat_le 65 c && nat_le c 90)

-- a letter, a digit, `-` or `:`
abbrev pub is_in_name : ℕ → Bool
is_in_name c = is_letter c || (nat_le 48 c && nat_le c 58) || (c == 45)

-- none of `'`, `<`, `&` and `>`
abbrev pub is_plain : ℕ → Bool
is_plain c = not ((c == 39) || (c == 60) || (c == 38) || (c == 62))

-- the state after an end tag or an empty-element tag
abbrev pub after_element : List (List ℕ) → ReaderState
after_element [] = ended
after_element (name ∷ open_names) = inside (name ∷ open_names)

-- the state after `</`
abbrev pub closed : List (List ℕ) → ReaderState
closed [] = malformed
closed (name ∷ open_names) = closing name open_names

-- the state after one more byte
abbrev pub step : ReaderState → ℕ → ReaderState
step outside c = if c == 60 then opened [] else malformed
step (inside os) c = if is_plain c then inside os else if c == 60 then opened os else malformed
step (opened os) c = if c == 47 then closed os else if is_letter c then named (c ∷ []) os else malformed
step (named n os) c = if is_in_name c then named (n ++ c ∷ []) os else if c == 32 then spaced n os else if c == 62 then inside (n ∷ os) else if c == 47 then slashed os else malformed
step (spaced n os) c = if is_letter c then attributed n os else malformed
step (attributed n os) c = if is_in_name c then attributed n os else if c == 61 then equated n os else malformed
step (equated n os) c = if c == 39 then quoted n os else malformed
step (quoted n os) c = if is_plain c then quoted n os else if c == 39 then unquoted n os else malformed
step (unquoted n os) c = if c == 32 then spaced n os else if c == 62 then inside (n ∷ os) else if c == 47 then slashed os else malformed
step (slashed os) c = if c == 62 then after_element os else malformed
step (closing [] os) c = if c == 62 then after_element os else malformed
step (closing (x ∷ xs) os) c = if c == x then closing xs os else malformed
step ended c = if c == 10 then ended else malformed
step malformed c = malformed

-- the state after all bytes of a text
abbrev pub read_all : ReaderState → List ℕ → ReaderState
read_all place [] = place
read_all place (c ∷ text) = read_all (step place c) text

abbrev pub IsWellFormed : List ℕ → Type 0
IsWellFormed text = read_all outside text ≡ ended

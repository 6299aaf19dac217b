-- The lines of a text.
use Rattle.std.specs.Prelude.{◌≡◌, ℕ, ◌<◌, ◌==◌, if◌then◌else◌, ◌⊎◌, ◌↔◌, List, [], ◌∷◌, ◌++◌, length, map, All, Contains, None, IfSome}
use Rattle.std.specs.List.{onto_first, flat_map, last_or}
use Rattle.std.specs.Str.Lines.{strip_carriage_return}

-- the parts that end at line feeds, and the part after the last line feed if it is not empty
unfoldable pub pieces_of : List ℕ → List (List ℕ)
pieces_of [] = []
pieces_of (b ∷ bs) = if b == 10 then [] ∷ pieces_of bs else onto_first b (pieces_of bs)

-- the lines in order, each without a carriage return at its end
unfoldable pub lines_of : List ℕ → List (List ℕ)
lines_of text = map strip_carriage_return (pieces_of text)

-- a piece, and the line feed that ends it
abbrev pub with_line_feed : List ℕ → List ℕ
with_line_feed piece = piece ++ 10 ∷ []

-- the piece has no line feed
abbrev pub HasNoLineFeed : List ℕ → Type 0
HasNoLineFeed piece = ¬ Contains piece 10

-- the last piece is not empty
abbrev pub LastIsNotEmpty : List (List ℕ) → Type 0
LastIsNotEmpty pieces = IfSome (last_or None pieces) (λ piece. 0 < length piece)

-- no piece has a line feed; the pieces, each followed by a line feed, are the text, except that the text may
-- lack the last line feed if its last piece is not empty
abbrev pub IsCutAtLineFeeds : List ℕ → List (List ℕ) → Type 0
IsCutAtLineFeeds text pieces =
    All HasNoLineFeed pieces
    × ((flat_map with_line_feed pieces ≡ text) ⊎ ((flat_map with_line_feed pieces ≡ text ++ 10 ∷ []) × LastIsNotEmpty pieces))

-- exactly one list of pieces is cut from a text at its line feeds
abbrev pub TextSplitsIntoLines : Type 0
TextSplitsIntoLines = (text : List ℕ) (pieces : List (List ℕ)) → (pieces_of text ≡ pieces) ↔ IsCutAtLineFeeds text pieces

-- a line feed ends the first line, and the other lines follow it
abbrev pub LinesEndAtFeeds : Type 0
LinesEndAtFeeds = (piece rest : List ℕ) → HasNoLineFeed piece → lines_of (piece ++ 10 ∷ rest) ≡ strip_carriage_return piece ∷ lines_of rest

-- the part after the last line feed is a line if it is not empty
abbrev pub LastLineEndsWithText : Type 0
LastLineEndsWithText = (piece : List ℕ) → HasNoLineFeed piece → 0 < length piece → lines_of piece ≡ strip_carriage_return piece ∷ []

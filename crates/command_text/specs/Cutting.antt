-- An input cut into lines, each with the bytes that it announces.
use Rattle.std.specs.Prelude.{ℕ, zero, suc, ◌+◌, ◌==◌, nat_lt, Bool, true, if◌then◌else◌, List, [], ◌∷◌, length, take, drop}
use Rattle.std.specs.List.{position_or_len}
use Rattle.std.specs.Str.Lines.{strip_carriage_return}
use Rattle.command_text.specs.Parsing.{parsed_line}
use Rattle.command_text.specs.declared.parsed_command.ParsedCommand.{ParsedCommand}
use Rattle.command_text.specs.declared.parsed_command.ParsedCommand.TheVariants.{BadText, TextRange, Text}

-- A parsed line and the bytes that it announces, or as many of them as the input has.
pub record Piece : Type 0 where
  pub requested : ParsedCommand
  pub text : List ℕ

-- The number of bytes that a line announces: 0 unless it is a good `load` or `adopt` command.
abbrev pub announced_len : ParsedCommand → ℕ
announced_len (Text purpose len) = len
announced_len _ = 0

-- Whether the input ended before the announced bytes did.
abbrev pub is_short : Piece → Bool
is_short piece = nat_lt (length piece.text) (announced_len piece.requested)

-- Whether the rest of the input is not served after this line. `short` says whether announced bytes are missing.
abbrev pub is_end : ParsedCommand → Bool → Bool
is_end BadText short = true
is_end TextRange short = true
is_end _ short = short

-- Whether the rest of the input is not served after this piece. That is so if the line announces a text but is
-- bad or out of range, or if bytes of its text are missing.
abbrev pub ends : Piece → Bool
ends piece = is_end piece.requested (is_short piece)

-- Whether the byte is a line feed.
abbrev pub is_feed : ℕ → Bool
is_feed b = b == 10

-- The number of bytes before the first line feed, or of all bytes if there is none.
abbrev pub line_len : List ℕ → ℕ
line_len text = position_or_len is_feed text

-- The parsed first line of a text, without its line feed and the one carriage return before it.
abbrev pub first_command : List ℕ → ParsedCommand
first_command text = parsed_line (strip_carriage_return (take (line_len text) text))

-- The first line of a text with the bytes that it announces, which begin after its line feed.
abbrev pub first_piece : List ℕ → Piece
first_piece text = record { requested = first_command text; text = take (announced_len (first_command text)) (drop (line_len text + 1) text) }

-- The pieces of a text after the given number of bytes. Each piece except the last takes the bytes of its line,
-- one for its line feed, and the bytes that it announces.
unfoldable pub pieces_after : ℕ → List ℕ → List Piece
pieces_after skipped [] = []
pieces_after (suc k) (b ∷ bs) = pieces_after k bs
pieces_after zero (b ∷ bs) =
    first_piece (b ∷ bs) ∷ (if ends (first_piece (b ∷ bs)) then [] else pieces_after (line_len (b ∷ bs) + announced_len (first_command (b ∷ bs))) bs)

-- The pieces of an input: its lines, each with the bytes that it announces.
abbrev pub pieces_of : List ℕ → List Piece
pieces_of input = pieces_after 0 input

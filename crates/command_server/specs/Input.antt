-- An input as lines and announced texts, as far as its bytes are known.
use Rattle.std.specs.Prelude.{◌≡◌, ◌≤◌, ◌<◌, ◌+◌, ◌++◌, ◌⊎◌, ℕ, min, Bool, true, false, List, [], ◌∷◌, length, take, Option, Some, None, OnSome, IfSome, ⊤}
use Rattle.std.specs.Io.KnownBytes.{Consumes, IsAtEnd, prepend_known}
use Rattle.text_lines.specs.Lines.{HasNoLineFeed}
use Rattle.command_text.specs.Scanning.{scan_of}
use Rattle.std.specs.Str.Lines.{strip_carriage_return}
use Rattle.command_text.specs.Parsing.{parsed_line}
use Rattle.command_text.specs.declared.parsed_command.ParsedCommand.{ParsedCommand}
use Rattle.command_server.specs.declared.input.AnnouncedText.{AnnouncedText}
use Rattle.command_server.specs.declared.input.AnnouncedText.TheVariants.{Whole, Dropped, Short}
use Rattle.command_server.specs.declared.input.PartialText.{PartialText}
use Rattle.command_server.specs.declared.input.PartialLine.{PartialLine}
use Rattle.command_server.specs.declared.input.Input.{Input}
use Rattle.command_server.specs.declared.input.Part.{Part}
use Rattle.command_server.specs.declared.input.Part.TheVariants.{End, Feed, More}
use Rattle.command_server.specs.KnownInput.{Fits, InputKnowledge, left_by}
use Rattle.command_server.specs.declared.streams.Source as sources

-- `line` keeps the first 1,026 of these bytes, and the result of scanning their first word.
abbrev pub IsPartialLine : List ℕ → PartialLine → Type 0
IsPartialLine bytes line = (line.kept.items ≡ take 1026 bytes) × (line.first_word ≡ scan_of bytes)

-- n is the number of bytes before the first line feed, or of all bytes if there is none.
pub record IsFirstLineLen (bytes : List ℕ) (n : ℕ) : Type 0 where
  pub within : n ≤ length bytes
  pub free : HasNoLineFeed (take n bytes)
  pub feed : n < length bytes → take (n + 1) bytes ≡ take n bytes ++ 10 ∷ []

-- The effect on the input of taking a part of a line: `bytes` were taken, with the line feed after them if it was
-- reached. At the end of the input, nothing was taken.
abbrev pub Moves : Part → Option (List ℕ) → Option (List ℕ) → List ℕ → Type 0
Moves (More n) old new bytes = Consumes old new bytes
Moves (Feed n) old new bytes = Consumes old new (bytes ++ 10 ∷ [])
Moves End old new bytes = (bytes ≡ []) × Consumes old new [] × OnSome old (IsAtEnd new)

-- A part of a line was taken from the input and appended to the line.
pub record TakesPart (old new : Option (List ℕ)) (before after : PartialLine) (part : Part) : Type 0 where
  pub bytes : List ℕ
  pub free : HasNoLineFeed bytes
  pub moves : Moves part old new bytes
  pub line : (seen : List ℕ) → IsPartialLine seen before → IsPartialLine (seen ++ bytes) after

-- The effect on the read buffer of taking a part of a line: `bytes` were taken, with the line feed after them if
-- it was reached, n bytes in all. If the buffer was empty, nothing was taken.
abbrev pub MovesBuffered : Part → List ℕ → List ℕ → List ℕ → Type 0
MovesBuffered (More n) old new bytes = (old ≡ bytes ++ new) × (length bytes ≡ n) × (0 < n)
MovesBuffered (Feed n) old new bytes = (old ≡ (bytes ++ 10 ∷ []) ++ new) × (length bytes + 1 ≡ n)
MovesBuffered End old new bytes = (bytes ≡ []) × (old ≡ []) × (new ≡ [])

-- A part of a line was taken from the read buffer and appended to the line.
pub record TakesBuffered (old new : List ℕ) (before after : PartialLine) (part : Part) : Type 0 where
  pub bytes : List ℕ
  pub free : HasNoLineFeed bytes
  pub moves : MovesBuffered part old new bytes
  pub line : (seen : List ℕ) → IsPartialLine seen before → IsPartialLine (seen ++ bytes) after

-- The number of bytes that may still be taken (`left` before, `later` afterwards) has decreased by at most the
-- number of bytes taken.
abbrev pub CountsTaken : Option (List ℕ) → ℕ → Option (List ℕ) → ℕ → Type 0
CountsTaken None left new later = ⊤
CountsTaken (Some xs) left None later = ⊥
CountsTaken (Some xs) left (Some ys) later = left + length ys ≤ later + length xs

-- The number of bytes that may still be taken (`left` before, `later` afterwards) has decreased by exactly the
-- number of bytes taken. If it was above 0, it still is.
abbrev pub CountsAll : Option (List ℕ) → ℕ → Option (List ℕ) → ℕ → Type 0
CountsAll None left new later = ⊤
CountsAll (Some xs) left None later = ⊥
CountsAll (Some xs) left (Some ys) later = (left + length ys ≡ later + length xs) × (0 < left → 0 < later)

module _ {R : Type 0} (on : sources.Ghosts R) where
  -- The rest of the input: the bytes read ahead, and those that the reader has left.
  abbrev pub left_of : InputKnowledge → Input → R → Option (List ℕ)
  left_of how input reader = prepend_known input.ahead (left_by on how reader)

  -- `Holds` relates the rest of the input before to the rest afterwards, for each knowledge about the input that
  -- fits its reader afterwards.
  abbrev pub Between : Input → R → Input → R → (Option (List ℕ) → Option (List ℕ) → Type 0) → Type 0
  Between old before new later Holds = (how : InputKnowledge) → Fits on how later → Holds (left_of how old before) (left_of how new later)

  -- If the input is known afterwards, it was known before in the same way, and the bytes that were taken were
  -- counted. At the limit, more bytes may have been taken than the count allowed.
  abbrev pub Counts : Input → R → Input → R → Type 0
  Counts old before new later = (how : InputKnowledge) → Fits on how later → Fits on how before × CountsTaken (left_of how old before) old.left (left_of how new later) new.left

  -- Each byte that was taken was counted once.
  abbrev pub CountsExactly : Input → R → Input → R → Type 0
  CountsExactly old before new later = (how : InputKnowledge) → Fits on how later → CountsAll (left_of how old before) old.left (left_of how new later) new.left

-- The number of bytes that may still be taken has decreased or, at the end of the input, is the same.
abbrev pub TakesLess : ℕ → ℕ → Part → Type 0
TakesLess left later End = later ≡ left
TakesLess left later part = later < left

-- The input can't be read on: the reader failed, or the limit for an input is reached.
abbrev pub IsInputFault : Bool → ℕ → Type 0
IsInputFault has_failed left = (has_failed ≡ true) ⊎ (left ≡ 0)

-- The line has exactly the bytes that were taken between the two moments.
pub record IsPartOf (old now : Option (List ℕ)) (line : PartialLine) : Type 0 where
  pub seen : List ℕ
  pub free : HasNoLineFeed seen
  pub moves : Consumes old now seen
  pub kept : IsPartialLine seen line

-- The command of the input's last line, which no line feed ends; `None` if this line is empty.
abbrev pub IsLast : List ℕ → Option ParsedCommand → Type 0
IsLast line None = line ≡ []
IsLast line (Some a) = (0 < length line) × (a ≡ parsed_line (strip_carriage_return line))

-- The first line of these bytes parses to `a`, and the rest follows its line feed. Or it is the last line, and
-- nothing follows.
pub record CutsLine (a : ParsedCommand) (bytes rest : List ℕ) : Type 0 where
  pub line : List ℕ
  pub free : HasNoLineFeed line
  pub requests_kept : a ≡ parsed_line (strip_carriage_return line)
  pub whole : (bytes ≡ line ++ 10 ∷ rest) ⊎ ((bytes ≡ line) × (rest ≡ []) × (0 < length line))

-- If the rest of the input is known, its first line parses to `a`, and `new` is what follows it.
abbrev pub Cuts : ParsedCommand → Option (List ℕ) → Option (List ℕ) → Type 0
Cuts a None new = ⊤
Cuts a (Some xs) None = ⊥
Cuts a (Some xs) (Some ys) = CutsLine a xs ys

-- If the rest of the input is known, its next line parses to `a`, and `new` is what follows it. `None` means that
-- nothing was left.
abbrev pub CutsNext : Option ParsedCommand → Option (List ℕ) → Option (List ℕ) → Type 0
CutsNext None old new = IfSome old (λ xs. xs ≡ [])
CutsNext (Some a) old new = Cuts a old new

-- These bytes of an announced text of `len` bytes have arrived so far. They are kept unless memory ran out.
abbrev pub IsPartialText : ℕ → List ℕ → PartialText → Type 0
IsPartialText len bytes text = (text.left + length bytes ≡ len) × (text.is_whole ≡ true → text.bytes.items ≡ bytes)

-- n bytes of the text were taken from those read ahead: as many as are missing, or all if there are fewer.
pub record TakesText (old new : List ℕ) (before after : PartialText) (n : ℕ) : Type 0 where
  pub bytes : List ℕ
  pub moves : old ≡ bytes ++ new
  pub count : length bytes ≡ n
  pub most : n ≡ min before.left (length old)
  pub left : after.left + n ≡ before.left
  pub text : (len : ℕ) (seen : List ℕ) → IsPartialText len seen before → IsPartialText len (seen ++ bytes) after

-- Some bytes of the text were taken, or the input was at its end.
pub record TakesMore (old new : Option (List ℕ)) (before after : PartialText) (some : Bool) : Type 0 where
  pub bytes : List ℕ
  pub moves : Consumes old new bytes
  pub text : (len : ℕ) (seen : List ℕ) → IsPartialText len seen before → IsPartialText len (seen ++ bytes) after
  pub less : some ≡ true → after.left < before.left
  pub end : some ≡ false → 0 < before.left → (bytes ≡ []) × OnSome old (IsAtEnd new)

-- The bytes that were taken between the two moments are the first bytes of the text.
pub record IsTextPart (len : ℕ) (old now : Option (List ℕ)) (text : PartialText) : Type 0 where
  pub seen : List ℕ
  pub moves : Consumes old now seen
  pub kept : IsPartialText len seen text

-- The effect on the input of reading an announced text of `len` bytes: all of them were taken; or the input ended
-- within the text, and everything that was left was taken.
abbrev pub TakesAll : ℕ → Option (List ℕ) → Option (List ℕ) → AnnouncedText → Type 0
TakesAll len old new (Whole text) = Consumes old new text.items × (length text.items ≡ len)
TakesAll len old new Dropped = (bytes : List ℕ) × Consumes old new bytes × (length bytes ≡ len)
TakesAll len old new Short = (bytes : List ℕ) × Consumes old new bytes × (length bytes < len) × OnSome old (IsAtEnd new)

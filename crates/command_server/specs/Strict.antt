-- The failure that the last complete line of a text reports.
use Rattle.std.specs.Prelude.{◌≡◌, ℕ, ◌==◌, if◌then◌else◌, Bool, true, false, List, [], ◌∷◌, ◌++◌, codes, bytes_eq, take, Option, Some, None, ⊤}
use Rattle.std.specs.Option.{option_and_then}
use Rattle.text_lines.specs.Lines.{HasNoLineFeed}
use Rattle.command_server.specs.Streams.{Event, Extends, Flushed, Put, Stream, put_by}
use Rattle.command_server.specs.declared.strict.FailedAnswer.{FailedAnswer}
use Rattle.command_server.specs.declared.strict.FailedAnswer.TheVariants.{Refused, DeviceFault}
use Rattle.command_server.specs.declared.strict.LastLines.{LastLines}

-- The line that is open after a text, if the bytes `begun` had begun a line before the text.
unfoldable pub open_line_after : List ℕ → List ℕ → List ℕ
open_line_after begun [] = begun
open_line_after begun (b ∷ bs) = if b == 10 then open_line_after [] bs else open_line_after (begun ++ b ∷ []) bs

-- The last complete line after a text, if the bytes `begun` had begun a line before the text, and `last` was the
-- last complete line then.
unfoldable pub last_line_after : Option (List ℕ) → List ℕ → List ℕ → Option (List ℕ)
last_line_after last begun [] = last
last_line_after last begun (b ∷ bs) = if b == 10 then last_line_after (Some begun) [] bs else last_line_after last (begun ++ b ∷ []) bs

-- The bytes after the last line feed of a text, or all its bytes if it has no line feed.
abbrev pub open_line : List ℕ → List ℕ
open_line text = open_line_after [] text

-- The last complete line of a text, without its line feed; `None` if the text has no line feed.
abbrev pub last_line : List ℕ → Option (List ℕ)
last_line text = last_line_after None [] text

-- The failure that a line reports: a refusal if it begins with `no `, a failed device if it is `fault device`.
unfoldable pub failed_answer_of : List ℕ → Option FailedAnswer
failed_answer_of line =
    if bytes_eq (codes "no ") (take 3 line) then Some Refused else
    if bytes_eq (codes "fault device") line then Some DeviceFault else None

-- Whether a failure is reported.
abbrev pub is_failed_answer : Option FailedAnswer → Bool
is_failed_answer None = false
is_failed_answer (Some why) = true

-- The failure that the last complete line of a text reports, if it reports one.
abbrev pub failed_answer_in : List ℕ → Option FailedAnswer
failed_answer_in text = option_and_then failed_answer_of (last_line text)

-- These events followed the text. At each flush among them, the last complete line reports no failure.
abbrev pub FlushesAllow : List ℕ → List Event → Type 0
FlushesAllow text [] = ⊤
FlushesAllow text (Put calls more ∷ events) = FlushesAllow (text ++ more) events
FlushesAllow text (Flushed calls ∷ events) = (failed_answer_in text ≡ None) × FlushesAllow text events

-- A text was written since the stream was `before`, and `reported` is the failure that its last complete line
-- reports, if any. At each flush, the last complete line so far reported no failure.
pub record ReportsLast (before now : Stream) (reported : Option FailedAnswer) : Type 0 where
  pub events : List Event
  pub put : Extends before now events (put_by events)
  pub reports : reported ≡ failed_answer_in (put_by events)
  pub allows : FlushesAllow [] events

-- `l` keeps the first 13 bytes of the open line of this text, and the failure that its last complete line
-- reports.
abbrev pub Follows : List ℕ → LastLines → Type 0
Follows text l = (l.begun.items ≡ take 13 (open_line text)) × (l.reported ≡ failed_answer_in text)

-- Law: if a text has one line feed, the bytes before it are the last complete line.
abbrev pub IsLastLine : Type 0
IsLastLine = (line rest : List ℕ) → HasNoLineFeed line → HasNoLineFeed rest → last_line (line ++ 10 ∷ rest) ≡ Some line

-- Law: the bytes between the last two line feeds of a text are the last complete line.
abbrev pub IsLastLineAfter : Type 0
IsLastLineAfter = (front line rest : List ℕ) → HasNoLineFeed line → HasNoLineFeed rest → last_line (front ++ 10 ∷ (line ++ 10 ∷ rest)) ≡ Some line

-- Law: a text without a line feed has no complete line.
abbrev pub HasNoLine : Type 0
HasNoLine = (rest : List ℕ) → HasNoLineFeed rest → last_line rest ≡ None

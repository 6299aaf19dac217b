-- The subcommand `audits`: what it prints for a list of pairs of files, line by line. The state is `was` before
-- and `now` afterwards. The contents of the output are `before` and `after`.
use Rattle.std.specs.Prelude.{
  ◌≡◌,
  ◌⊎◌,
  ℕ,
  ◌+◌,
  ◌-◌,
  ◌==◌,
  nat_lt,
  ◌&&◌,
  ◌||◌,
  not,
  Bool,
  if◌then◌else◌,
  List,
  [],
  ◌∷◌,
  ◌++◌,
  All,
  length,
  slice_index_or,
  take,
  drop,
  codes,
  Option,
  Some,
  None,
  Ok,
  Err,
  max,
  option_and_then,
  option_map,
}
use Rattle.std.specs.Io.KnownBytes.{Appends}
use Rattle.std.specs.List.{concat, flat_map, position_or_len}
use Rattle.std.specs.Str.{IsUtf8}
use Rattle.std.specs.declared.io.ErrorKind.{ErrorKind}
use Rattle.text_lines.specs.Lines.{HasNoLineFeed, with_line_feed, lines_of}
use Rattle.instance_read.specs.declared.formats.Format.{Format}
use Rattle.auditor_cli.specs.BestKnown.{BestCost, best_in}
use Rattle.auditor_cli.specs.BadLines.{bad_note, bad_reason}
use Rattle.auditor_cli.specs.IgnoredLines.{PrintsNoteOnSolution, listed_note}
use Rattle.auditor_cli.specs.Columns.{cut, is_tab}
use Rattle.auditor_cli.specs.Compare.{IsComparedAnswer}
use Rattle.auditor_cli.specs.Files.{IsPrintedForFiles, IsPrintedForFilesBy}
use Rattle.auditor_cli.specs.Reads.{FileRead}
use Rattle.auditor_cli.specs.Messages.{PrintsReadFailure, read_failure_line, read_failure_status}

-- The path is not empty and has no tab.
abbrev pub is_path : List ℕ → Bool
is_path path = not (length path == 0) && (position_or_len is_tab path == length path)

-- The path before a tab, and the path in the rest of the line after the tab; none if a path is empty or has a
-- tab.
abbrev pub parted : List ℕ → List ℕ → Option (List ℕ × List ℕ)
parted instance [] = None
parted instance (tab ∷ solution) = if is_path instance && is_path solution then Some (instance, solution) else None

-- The two paths of a line, separated by its only tab.
abbrev pub parts_of : List ℕ → Option (List ℕ × List ℕ)
parts_of text = let n = position_or_len is_tab text in parted (take n text) (drop n text)

-- The line names these two paths, which are UTF-8.
abbrev pub IsPair : List ℕ → List ℕ → List ℕ → Type 0
IsPair text instance solution = (parts_of text ≡ Some (instance, solution)) × IsUtf8 instance × IsUtf8 solution

-- The line does not name two paths.
abbrev pub NamesNone : List ℕ → Type 0
NamesNone text = (instance solution : List ℕ) → IsPair text instance solution → ⊥

-- The line does not name two paths: nothing is done for it, and `bad line` is printed with status 2.
abbrev pub IsBadLine : {S : Type 0} → List ℕ → S → S → List ℕ → ℕ → Type 0
IsBadLine l was now text status = NamesNone l × (now ≡ was) × (text ≡ with_line_feed (codes "bad line")) × (status ≡ 2)

-- Two paths and an answer, separated by tabs.
abbrev pub pair_text : List ℕ → List ℕ → List ℕ → List ℕ
pair_text one other answer = one ++ 9 ∷ (other ++ 9 ∷ answer)

-- ---- A list whose lines are processed in any way. `IsPrintedFor` relates a line to the state before and after
-- the line, to the text that is printed for it, and to its status. `noted` returns the state after a file was
-- read.

module _ {S : Type 0} (IsPrintedFor : List ℕ → S → S → List ℕ → ℕ → Type 0) where
  -- The lines were processed one after another, and their texts were printed in this order. The status is the
  -- greatest one, or 0 without lines.
  abbrev pub ArePrinted : List (List ℕ) → S → S → List ℕ → ℕ → Type 0
  ArePrinted [] was now text status = (now ≡ was) × (text ≡ []) × (status ≡ 0)
  ArePrinted (l ∷ ls) was now text status =
      (next : S) × (first : List ℕ) × (n : ℕ) × (rest : List ℕ) × (m : ℕ) × IsPrintedFor l was next first n × ArePrinted ls next now rest m × (text ≡ first ++ rest) × (status ≡ max n m)

  -- The text for the line was appended to the output.
  abbrev pub PrintsLine : List ℕ → S → S → Option (List ℕ) → Option (List ℕ) → ℕ → Type 0
  PrintsLine l was now before after status = (text : List ℕ) × IsPrintedFor l was now text status × Appends before after text

  -- The texts for the lines were appended to the output.
  abbrev pub PrintsLines : List (List ℕ) → S → S → Option (List ℕ) → Option (List ℕ) → ℕ → Type 0
  PrintsLines ls was now before after status = (text : List ℕ) × ArePrinted ls was now text status × Appends before after text

  module _ (noted : FileRead → S → S) where
    -- The list was read as a whole, and the texts for its lines were appended to the output.
    abbrev pub PrintsListText : List ℕ → S → S → Option (List ℕ) → Option (List ℕ) → ℕ → Type 0
    PrintsListText path was now before after status = (x : List ℕ) × PrintsLines (lines_of x) (noted (path, Ok x) was) now before after status

    -- The list can't be read, and the line that says so was appended to the output.
    abbrev pub PrintsUnreadList : List ℕ → S → S → Option (List ℕ) → Option (List ℕ) → ℕ → Type 0
    PrintsUnreadList path was now before after status = (error : ErrorKind) × (now ≡ noted (path, Err error) was) × PrintsReadFailure path error before after status

    -- The list was read and its lines were processed, or it can't be read.
    abbrev pub PrintsListBy : List ℕ → S → S → Option (List ℕ) → Option (List ℕ) → ℕ → Type 0
    PrintsListBy path was now before after status = PrintsListText path was now before after status ⊎ PrintsUnreadList path was now before after status

-- ---- The list of `audits`

-- The state while a list is audited: the files that were read, what standard error holds, and how many lines of
-- the list were answered.
pub record ListState : Type 0 where
  pub files : List FileRead
  pub errors : Option (List ℕ)
  pub lines : ℕ

-- The state with these files, contents of standard error, and number of lines.
abbrev pub list_state : List FileRead → Option (List ℕ) → ℕ → ListState
list_state files errors lines = record { files = files; errors = errors; lines = lines }

-- The state after one more file or line was read.
abbrev pub read_more : FileRead → ListState → ListState
read_more entry was = list_state (entry ∷ was.files) was.errors was.lines

-- The number of the next line, after n lines. It stays at the greatest `u64` once it is reached.
abbrev pub next_number : ℕ → ℕ
next_number n = if nat_lt n 18446744073709551615 then n + 1 else n

-- The line names a pair of files. Its text is the two paths and the line that `audit` prints for the pair,
-- separated by tabs. A note on ignored lines of the solution goes to standard error.
pub record IsPairPrinted (routes_alone : Bool) (k : Format) (path l : List ℕ) (was now : ListState) (text : List ℕ) (status : ℕ) : Type 0 where
  pub instance : List ℕ
  pub solution : List ℕ
  pub pair : IsPair l instance solution
  pub answer : List ℕ
  pub reported : IsPrintedForFiles routes_alone k instance solution was.files now.files answer status
  pub noted : PrintsNoteOnSolution (listed_note path now.lines solution) instance solution was.files now.files was.errors now.errors
  pub counted : now.lines ≡ next_number was.lines
  pub text_is : text ≡ pair_text instance solution answer

-- Two paths and the best-known cost in the third column, for an instance in this format. There is none if a path
-- is empty or the column is not such a cost.
abbrev pub compared : Format → List ℕ → List ℕ → List ℕ → Option (List ℕ × List ℕ × BestCost)
compared k instance solution column =
    if (length instance == 0) || (length solution == 0) then None else option_map (λ best. (instance, solution, best)) (best_in k column)

-- The two paths and the best-known cost of a line with exactly two tabs.
abbrev pub compared_parts : Format → List ℕ → Option (List ℕ × List ℕ × BestCost)
compared_parts k text = option_and_then (λ p. option_and_then (λ q. compared k p.0 q.0 q.1) (cut p.1)) (cut text)

-- The line names these two paths, which are UTF-8, and this best-known cost.
abbrev pub IsComparedPair : Format → List ℕ → List ℕ → List ℕ → BestCost → Type 0
IsComparedPair k text instance solution best = (compared_parts k text ≡ Some (instance, solution, best)) × IsUtf8 instance × IsUtf8 solution

-- The line does not name two paths and a best-known cost.
abbrev pub ComparesNone : Format → List ℕ → Type 0
ComparesNone k text = (instance solution : List ℕ) (best : BestCost) → IsComparedPair k text instance solution best → ⊥

-- The line names these two paths, with this best-known cost or without one.
abbrev pub IsListedPair : Format → List ℕ → List ℕ → List ℕ → Option BestCost → Type 0
IsListedPair k text instance solution None = IsPair text instance solution
IsListedPair k text instance solution (Some best) = NamesNone text × IsComparedPair k text instance solution best

-- The line names a pair of files and a best-known cost. Its text is the two paths and their audit compared with
-- that cost. A note on ignored lines of the solution goes to standard error.
pub record IsComparedPairPrinted (routes_alone : Bool) (k : Format) (path l : List ℕ) (was now : ListState) (text : List ℕ) (status : ℕ) : Type 0 where
  pub instance : List ℕ
  pub solution : List ℕ
  pub best : BestCost
  pub columns : IsComparedPair k l instance solution best
  pub answer : List ℕ
  pub reported : IsPrintedForFilesBy (IsComparedAnswer routes_alone k best) instance solution was.files now.files answer status
  pub noted : PrintsNoteOnSolution (listed_note path now.lines solution) instance solution was.files now.files was.errors now.errors
  pub counted : now.lines ≡ next_number was.lines
  pub text_is : text ≡ pair_text instance solution answer

-- The line is bad: nothing is done for it, `bad line` is printed, and the reason goes to standard error.
pub record IsBadLinePrinted (k : Format) (path l : List ℕ) (was now : ListState) (text : List ℕ) (status : ℕ) : Type 0 where
  pub none : ComparesNone k l
  pub files : now.files ≡ was.files
  pub noted : Appends was.errors now.errors (bad_note path now.lines (bad_reason k l))
  pub counted : now.lines ≡ next_number was.lines
  pub text_is : text ≡ with_line_feed (codes "bad line")
  pub status_is : status ≡ 2

-- The answer to a line that is not just two paths: it has a best-known cost after them, or it is bad.
abbrev pub IsComparedLine : Bool → Format → List ℕ → List ℕ → ListState → ListState → List ℕ → ℕ → Type 0
IsComparedLine routes_alone k path l was now text status =
    IsComparedPairPrinted routes_alone k path l was now text status ⊎ IsBadLinePrinted k path l was now text status

-- The answer to a line of the list at this path.
abbrev pub IsAudited : Bool → Format → List ℕ → List ℕ → ListState → ListState → List ℕ → ℕ → Type 0
IsAudited routes_alone k path l was now text status =
    IsPairPrinted routes_alone k path l was now text status ⊎ (NamesNone l × IsComparedLine routes_alone k path l was now text status)

-- ---- A list that is read line by line

-- The text is a whole line: its last byte is its only line feed.
abbrev pub IsEnded : List ℕ → Type 0
IsEnded line = (piece : List ℕ) × HasNoLineFeed piece × (line ≡ with_line_feed piece)

-- The last byte of the text is a line feed.
abbrev pub ends_at_feed : List ℕ → Bool
ends_at_feed text = slice_index_or text (length text - 1) 0 == 10

-- A line of the list was read, with its line feed if it has one. Then the files that it names were read, before
-- anything else of the list. This does not say when its answer was written. At the end of the list, the line may
-- have no bytes.
abbrev pub IsReadLine : Bool → Format → List ℕ → List ℕ → ListState → ListState → List ℕ → ℕ → Type 0
IsReadLine routes_alone k path line was now text status = ArePrinted (IsAudited routes_alone k path) (lines_of line) (read_more (path, Ok line) was) now text status

-- The list was read to its end: lines with their line feeds, and a last part without one, which may be empty.
-- The answers are those for the lines of the whole list.
pub record IsReadWhole (routes_alone : Bool) (k : Format) (path : List ℕ) (was now : ListState) (text : List ℕ) (status : ℕ) : Type 0 where
  pub lines : List (List ℕ)
  pub last : List ℕ
  pub ended_lines : All IsEnded lines
  pub unended : HasNoLineFeed last
  pub reported : ArePrinted (IsReadLine routes_alone k path) (lines ++ last ∷ []) was now text status
  pub all_lines : flat_map lines_of (lines ++ last ∷ []) ≡ lines_of (concat lines ++ last)

-- The list could be read only up to some line, or not at all. The line that says so is printed after the answers
-- for the earlier lines.
pub record IsReadPartly (routes_alone : Bool) (k : Format) (path : List ℕ) (was now : ListState) (text : List ℕ) (status : ℕ) : Type 0 where
  pub lines : List (List ℕ)
  pub ended_lines : All IsEnded lines
  pub between : ListState
  pub before : List ℕ
  pub greatest : ℕ
  pub reported : ArePrinted (IsReadLine routes_alone k path) lines was between before greatest
  pub all_lines : flat_map lines_of lines ≡ lines_of (concat lines)
  pub error : ErrorKind
  pub noted : now ≡ read_more (path, Err error) between
  pub text_is : text ≡ before ++ read_failure_line path error
  pub status_is : status ≡ max greatest (read_failure_status error)

-- The list was read to its end, or up to an error, and this text was printed for it.
abbrev pub IsListRead : Bool → Format → List ℕ → ListState → ListState → List ℕ → ℕ → Type 0
IsListRead routes_alone k path was now text status = IsReadWhole routes_alone k path was now text status ⊎ IsReadPartly routes_alone k path was now text status

-- The list was read to its end, or up to an error, and the text for it was appended to the output.
abbrev pub PrintsListRead : Bool → Format → List ℕ → ListState → ListState → Option (List ℕ) → Option (List ℕ) → ℕ → Type 0
PrintsListRead routes_alone k path was now before after status = (text : List ℕ) × IsListRead routes_alone k path was now text status × Appends before after text

-- The texts for the whole list, from its first line on, were appended to the output and to standard error.
abbrev pub PrintsList : Bool → Format → List ℕ → List FileRead → List FileRead → Option (List ℕ) → Option (List ℕ) → Option (List ℕ) → Option (List ℕ) → ℕ → Type 0
PrintsList routes_alone k path was now before after errors_before errors_after status =
    (lines : ℕ) × PrintsListRead routes_alone k path (list_state was errors_before 0) (list_state now errors_after lines) before after status

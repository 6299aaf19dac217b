-- Notes on ignored lines: the lines of a solution after its cost line, and a limit of an instance that no rule
-- checks. Lines count from 1.
use Rattle.std.specs.Prelude.{◌⊎◌, ℕ, List, [], ◌++◌, codes, decimal, Option, Some, None}
use Rattle.std.specs.Io.KnownBytes.{Appends}
use Rattle.std.specs.declared.io.ErrorKind.{ErrorKind}
use Rattle.text_lines.specs.Lines.{with_line_feed}
use Rattle.plan_explain.specs.AfterCost.{line_after_cost}
use Rattle.plan_explain.specs.IgnoredLimits.{ignored_limit_line}
use Rattle.instance_read.specs.declared.formats.Format.{Format}
use Rattle.auditor_cli.specs.Files.{AreBothRead, IsUnread}
use Rattle.auditor_cli.specs.Reads.{FileRead}

-- The note that line n of the solution at this path is not read, or nothing without such a line.
abbrev pub ignored_line_note_by : List ℕ → Option ℕ → List ℕ
ignored_line_note_by path None = []
ignored_line_note_by path (Some n) = with_line_feed (codes "planner: " ++ path ++ codes ": line " ++ decimal n ++ codes " comes after the cost line and is not read")

-- The note on the first ignored line of this solution, or nothing if there is none.
abbrev pub ignored_line_note : List ℕ → List ℕ → List ℕ
ignored_line_note path text = ignored_line_note_by path (line_after_cost text)

-- The note that line n of the instance at this path sets a limit that no rule checks, or nothing without such a
-- line.
abbrev pub ignored_limit_note_by : List ℕ → Option ℕ → List ℕ
ignored_limit_note_by path None = []
ignored_limit_note_by path (Some n) = with_line_feed (codes "planner: " ++ path ++ codes ": line " ++ decimal n ++ codes " sets a limit that no rule checks")

-- The note on the first limit of this instance that no rule checks, or nothing if there is none.
abbrev pub ignored_limit_note : Format → List ℕ → List ℕ → List ℕ
ignored_limit_note format path text = ignored_limit_note_by path (ignored_limit_line format text)

-- Both files were read, and the note on their texts was appended to standard error; or one can't be read, and
-- nothing was appended.
abbrev pub PrintsNoteOnTexts : (List ℕ → List ℕ → List ℕ) → List ℕ → List ℕ → List FileRead → List FileRead → Option (List ℕ) → Option (List ℕ) → Type 0
PrintsNoteOnTexts note instance solution was now before after =
    ((x : List ℕ) × (y : List ℕ) × AreBothRead instance solution x y was now × Appends before after (note x y))
    ⊎ ((path : List ℕ) × (error : ErrorKind) × IsUnread instance solution path error was now × Appends before after [])

-- Both files were read, and the note on the solution's text was appended to standard error; or one can't be
-- read, and nothing was appended.
abbrev pub PrintsNoteOnSolution : (List ℕ → List ℕ) → List ℕ → List ℕ → List FileRead → List FileRead → Option (List ℕ) → Option (List ℕ) → Type 0
PrintsNoteOnSolution note instance solution was now before after = PrintsNoteOnTexts (λ x y. note y) instance solution was now before after

-- The notes on the solution and on the instance were appended to standard error, in this order; or a file can't
-- be read, and nothing was appended.
abbrev pub PrintsIgnored : Format → List ℕ → List ℕ → List FileRead → List FileRead → Option (List ℕ) → Option (List ℕ) → Type 0
PrintsIgnored format instance solution was now before after =
    PrintsNoteOnTexts (λ x y. ignored_line_note solution y ++ ignored_limit_note format instance x) instance solution was now before after

-- The beginning of a note on line k of a list.
abbrev pub place_text : List ℕ → ℕ → List ℕ
place_text list k = codes "planner: " ++ list ++ codes ": line " ++ decimal k ++ codes ": "

-- The note that line n of a solution is not read, after the position of line k of the list that names the
-- solution; or nothing without such a line.
abbrev pub listed_note_by : List ℕ → ℕ → List ℕ → Option ℕ → List ℕ
listed_note_by list k path None = []
listed_note_by list k path (Some n) = place_text list k ++ with_line_feed (path ++ codes ": line " ++ decimal n ++ codes " comes after the cost line and is not read")

-- The note on the first ignored line of a solution that line k of a list names, or nothing if there is none.
abbrev pub listed_note : List ℕ → ℕ → List ℕ → List ℕ → List ℕ
listed_note list k path text = listed_note_by list k path (line_after_cost text)

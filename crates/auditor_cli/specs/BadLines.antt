-- The reason why a line of a list for `audits` is bad.
use Rattle.std.specs.Prelude.{ℕ, ◌==◌, ◌||◌, nat_lt, is_none, List, ◌++◌, length, codes, decimal, Option, Some, None, if◌then◌else◌}
use Rattle.std.specs.List.{position_or_len}
use Rattle.plan_types.specs.declared.requests.Kind.{Kind}
use Rattle.plan_types.specs.declared.requests.Kind.TheVariants.{LiLim, Vrp}
use Rattle.instance_read.specs.Formats.{kind_of}
use Rattle.instance_read.specs.declared.formats.Format.{Format}
use Rattle.text_lines.specs.Lines.{with_line_feed}
use Rattle.auditor_cli.specs.BestKnown.{best_in}
use Rattle.auditor_cli.specs.Columns.{cut, is_tab}

-- The reason if the third column is not a best-known cost, for instances of this kind.
abbrev pub cost_reason : Kind → List ℕ
cost_reason LiLim = codes "the third column is not a best-known cost such as 10 829 or 829"
cost_reason Vrp = codes "the third column is not a best-known cost such as 829"

-- The reason if two columns are not paths: one is empty, or else not UTF-8.
abbrev pub paths_reason : List ℕ → List ℕ → List ℕ
paths_reason instance solution = if (length instance == 0) || (length solution == 0) then codes "a path is empty" else codes "a path is not UTF-8"

-- The reason for a bad line with two tabs or more, by its first two columns and the text after its second tab.
abbrev pub columns_reason : Format → List ℕ → List ℕ → List ℕ → List ℕ
columns_reason format instance solution column =
    if nat_lt (position_or_len is_tab column) (length column) then codes "it has more than two tabs"
    else if is_none (best_in format column) then cost_reason (kind_of format)
    else paths_reason instance solution

-- The reason for a bad line with a tab: by its third column if it has one, otherwise by its two paths.
abbrev pub rest_reason : Format → List ℕ → List ℕ → Option (List ℕ × List ℕ) → List ℕ
rest_reason format instance rest None = paths_reason instance rest
rest_reason format instance rest (Some p) = columns_reason format instance p.0 p.1

-- The reason for a bad line, by how its first tab splits it.
abbrev pub reason_by : Format → List ℕ → Option (List ℕ × List ℕ) → List ℕ
reason_by format line None = if length line == 0 then codes "it is empty" else codes "it has no tab"
reason_by format line (Some p) = rest_reason format p.0 p.1 (cut p.1)

-- The reason why a line is bad, in a list of instances in this format.
abbrev pub bad_reason : Format → List ℕ → List ℕ
bad_reason format line = reason_by format line (cut line)

-- The note that line n of a list is bad, with the reason. Lines count from 1.
abbrev pub bad_note : List ℕ → ℕ → List ℕ → List ℕ
bad_note list n why = with_line_feed (codes "planner: " ++ list ++ codes ": line " ++ decimal n ++ codes ": bad line: " ++ why)

-- The lines so far are blank, so the rest has the same numbered lines.
use Rattle.std.proofs.Common.{◌≡◌, ◌+◌, ◌<◌, ◌^◌, length}
use Rattle.instance_read.specs.Rows.{rows_from}
use Rattle.instance_read.proofs.rows.NumberedLinesIterator.next.Given as goal

-- the lines so far are blank
abbrev pub invariant-loop-text : goal.invariant-loop-text
invariant-loop-text l = record {
  rows : rows_from (l.self-inside.count + 1) l.self-inside.lines ≡ rows_from (l.initial.self-inside.count + 1) l.initial.self-inside.lines;
  counted : l.self-inside.count + length l.self-inside.lines < 2 ^ 64;
}

abbrev pub decreases-loop-text : goal.decreases-loop-text
decreases-loop-text l = length l.self-inside.lines

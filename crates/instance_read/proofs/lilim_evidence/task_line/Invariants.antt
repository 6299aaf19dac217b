-- The line found in the rest is the one found in all lines.
use Rattle.std.proofs.Common.{◌≡◌}
use Rattle.std.specs.Prelude.{find}
use Rattle.instance_read.specs.LilimEvidence.{is_task_line}
use Rattle.instance_read.specs.Rows.{rows_of}
use Rattle.instance_read.proofs.lilim_evidence.task_line.Given as goal

abbrev pub invariant-loop-line : goal.invariant-loop-line
invariant-loop-line l = find (is_task_line l.number) l.line-iterator ≡ find (is_task_line l.number) (rows_of l.text)

-- The result for the rest is the result for all lines.
use Rattle.std.proofs.Common.{◌≡◌, []}
use Rattle.instance_read.specs.LilimEvidence.{line_and_previous}
use Rattle.instance_read.specs.Rows.{rows_of}
use Rattle.instance_read.proofs.lilim_evidence.line_and_previous.Given as goal

abbrev pub invariant-loop-line : goal.invariant-loop-line
invariant-loop-line l = line_and_previous l.number l.before l.line-iterator ≡ line_and_previous l.number [] (rows_of l.text)

-- A search of the rest, with what is due there, finds the line that a search of all lines finds.
use Rattle.std.proofs.Common.{◌≡◌, []}
use Rattle.instance_read.specs.Rows.{rows_of}
use Rattle.instance_read.specs.SolomonEvidence.{due_line_from}
use Rattle.instance_read.specs.declared.evidence.SolomonLine.TheVariants.{Name}
use Rattle.instance_read.proofs.solomon_evidence.due_line.Given as goal

abbrev pub invariant-loop-line : goal.invariant-loop-line
invariant-loop-line l = due_line_from l.number l.due l.before l.line-iterator ≡ due_line_from l.number Name [] (rows_of l.text)

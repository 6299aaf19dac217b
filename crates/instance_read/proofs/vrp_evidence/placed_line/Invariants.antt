-- A search of the rest, with the data from the lines before it, finds the line that a search of all lines
-- finds.
use Rattle.std.proofs.Common.{◌≡◌}
use Rattle.std.specs.Prelude.{None}
use Rattle.instance_read.specs.Rows.{rows_of}
use Rattle.instance_read.specs.VrpEvidence.{line_from}
use Rattle.instance_read.specs.declared.vrp_lines.Section.TheVariants.{Outside}
use Rattle.instance_read.proofs.vrp_evidence.placed_line.Given as goal

abbrev pub invariant-loop-line : goal.invariant-loop-line
invariant-loop-line l = line_from l.number l.nodes l.place l.line-iterator ≡ line_from l.number None Outside (rows_of l.text)

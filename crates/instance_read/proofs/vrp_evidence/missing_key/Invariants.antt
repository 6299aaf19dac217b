-- In the search for a missing key, the rest has the same result as all lines.
use Rattle.std.proofs.Common.{◌≡◌}
use Rattle.instance_read.specs.Rows.{rows_of}
use Rattle.instance_read.specs.VrpEvidence.{missing_key}
use Rattle.instance_read.proofs.vrp_evidence.missing_key.Given as goal

abbrev pub invariant-loop-line : goal.invariant-loop-line
invariant-loop-line l = missing_key l.key l.line-iterator ≡ missing_key l.key (rows_of l.text)

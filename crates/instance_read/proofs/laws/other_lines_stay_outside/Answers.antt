-- A line with any other key leaves the next line outside the sections and announces no nodes.
use Rattle.instance_read.proofs.VrpLawProofs.{announces, others}
use Rattle.instance_read.proofs.laws.other_lines_stay_outside.Goals as goal

pub returns : goal.returns
returns c = record { place = others; nodes = announces }

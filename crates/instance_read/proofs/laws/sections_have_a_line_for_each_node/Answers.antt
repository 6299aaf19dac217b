-- A section of nodes has as many lines as the first DIMENSION line says.
use Rattle.instance_read.proofs.VrpLawProofs.{sections}
use Rattle.instance_read.proofs.laws.sections_have_a_line_for_each_node.Goals as goal

pub returns : goal.returns
returns c = sections

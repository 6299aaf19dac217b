-- Each line after EOF is after the end of the text.
use Rattle.instance_read.proofs.VrpLawProofs.{end}
use Rattle.instance_read.proofs.laws.eof_is_the_end.Goals as goal

pub returns : goal.returns
returns c = end

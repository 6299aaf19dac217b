-- A text that is written spells the problem from which it was written.
use Rattle.instance_text.proofs.ReadBack.{texts_are_read_back}
use Rattle.instance_text.proofs.laws.texts_are_read_back.Goals as goal

pub returns : goal.returns
returns c = texts_are_read_back

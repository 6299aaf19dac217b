-- The list of depots ends with its second word.
use Rattle.instance_read.proofs.VrpLawProofs.{depots}
use Rattle.instance_read.proofs.laws.depots_are_two_words.Goals as goal

pub returns : goal.returns
returns c = depots

-- An input is cut into lines, each with the bytes that it announces.
use Rattle.command_text.proofs.CutLemmas.{none, follow, last}
use Rattle.command_text.proofs.laws.pieces_follow.Goals as goal

pub returns-clause-none : goal.returns-clause-none
returns-clause-none c = none

pub returns-clause-ended : goal.returns-clause-ended
returns-clause-ended c = follow

pub returns-clause-last : goal.returns-clause-last
returns-clause-last c = last

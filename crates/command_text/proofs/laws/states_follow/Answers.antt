-- The session ends in the state after the operations that it has executed.
use Rattle.command_text.proofs.StateLemmas.{follow}
use Rattle.command_text.proofs.laws.states_follow.Goals as goal

pub returns : goal.returns
returns c = follow

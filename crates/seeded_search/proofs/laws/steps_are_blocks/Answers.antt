-- The sixteen words of a step are the block of its number in ChaCha20's key stream of the seed.
use Rattle.seeded_search.proofs.StepLemmas.{step_is_block}
use Rattle.seeded_search.proofs.laws.steps_are_blocks.Goals as goal

pub returns : goal.returns
returns c = step_is_block

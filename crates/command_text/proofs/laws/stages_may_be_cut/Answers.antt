-- Annealing in stages ends in the same state if it is cut off and repeated, and so does the command `anneal FROM
-- TO`.
use Rattle.command_text.proofs.RepeatLemmas.{lines_may_be_cut}
use Rattle.command_text.proofs.StagingLemmas.{stages_may_be_cut}
use Rattle.command_text.proofs.laws.stages_may_be_cut.Goals as goal

pub returns-clause-commands : goal.returns-clause-commands
returns-clause-commands c = stages_may_be_cut

pub returns-clause-lines : goal.returns-clause-lines
returns-clause-lines c = lines_may_be_cut

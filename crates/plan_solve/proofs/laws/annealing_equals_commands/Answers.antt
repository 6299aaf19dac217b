-- The operations of the stages lead to the result, and so does the command `anneal 0 STEPS`.
use Rattle.plan_solve.proofs.AnnealLemmas.{line_leaves_it, stages_make_it}
use Rattle.plan_solve.proofs.laws.annealing_equals_commands.Goals as goal

pub returns-clause-commands : goal.returns-clause-commands
returns-clause-commands c = stages_make_it

pub returns-clause-line : goal.returns-clause-line
returns-clause-line c = line_leaves_it

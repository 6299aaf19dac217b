-- Several annealings lead to the same state as one annealing with the same number of steps
use Rattle.command_core.proofs.SearchLemmas.{annealings_add_up, runs_are_one_annealing}
use Rattle.command_core.proofs.laws.annealings_add_up.Goals as goal

pub returns-clause-two : goal.returns-clause-two
returns-clause-two c = annealings_add_up c.anneal_steps_add_up.ensures

pub returns-clause-many : goal.returns-clause-many
returns-clause-many c = runs_are_one_annealing c.anneal_steps_add_up.ensures

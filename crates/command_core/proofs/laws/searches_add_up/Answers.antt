-- Several searches lead to the same state as one search with the same number of steps
use Rattle.command_core.proofs.SearchLemmas.{searches_add_up, runs_are_one_search}
use Rattle.command_core.proofs.laws.searches_add_up.Goals as goal

pub returns-clause-two : goal.returns-clause-two
returns-clause-two c = searches_add_up c.steps_add_up.ensures

pub returns-clause-many : goal.returns-clause-many
returns-clause-many c = runs_are_one_search c.steps_add_up.ensures

-- Assigned numbers ascend, so none is assigned twice before the next Load
use Rattle.command_core.proofs.NumberLemmas.{next_numbers_rise, assigned_numbers_are_new}
use Rattle.command_core.proofs.laws.assigned_numbers_are_new.Goals as goal

pub returns-clause-next : goal.returns-clause-next
returns-clause-next c = next_numbers_rise

pub returns-clause-given : goal.returns-clause-given
returns-clause-given c = assigned_numbers_are_new

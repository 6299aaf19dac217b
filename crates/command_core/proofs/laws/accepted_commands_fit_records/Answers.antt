-- If an accepted command has a record, its fields fit into the record
use Rattle.command_core.proofs.NumberLemmas.{accepted_fit_records}
use Rattle.command_core.proofs.laws.accepted_commands_fit_records.Goals as goal

pub returns : goal.returns
returns c = accepted_fit_records

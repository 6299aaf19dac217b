-- The result is that of opening the device over the file.
use Rattle.planner_cli.proofs.StoreLemmas.{foreseen_of, opening_of}
use Rattle.planner_cli.proofs.warned_opening.open_with_warning.Goals as goal

pub returns-in-Ok-clause-opens : goal.returns-in-Ok-clause-opens
returns-in-Ok-clause-opens g c = opening_of _ _ _ _ c.in-Ok.device c.in-Ok.ensures.reported c.open_device_with_warning.result c.open_device_with_warning.ensures

pub returns-in-Ok-clause-announced : goal.returns-in-Ok-clause-announced
returns-in-Ok-clause-announced g c = foreseen_of _ c.in-Ok.device c.open_device_with_warning.result _ _ c.open_device_with_warning.ensures

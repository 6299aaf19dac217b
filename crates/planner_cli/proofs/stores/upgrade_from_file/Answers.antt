-- Two cases: the old file was opened, or it was not.
use Rattle.std.proofs.Common.{inl, inr, refl}
use Rattle.planner_cli.proofs.stores.upgrade_from_file.Goals as goal

pub returns-in-Ok-clause-upgrades : goal.returns-in-Ok-clause-upgrades
returns-in-Ok-clause-upgrades g c = (_, (c.in-Ok.ensures.noted, inl (c.in-Ok.device, c.in-Ok.ensures.reported, c.upgrade_device.ensures.upgrades)))

pub returns-in-Err-clause-upgrades : goal.returns-in-Err-clause-upgrades
returns-in-Err-clause-upgrades g c = (_, (c.in-Err.ensures.noted, inr (c.in-Err.refusal, c.in-Err.ensures.reported, refl, c.none.ensures, c.print_file_refusal-reported.ensures)))

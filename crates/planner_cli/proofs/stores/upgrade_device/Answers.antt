-- The old store is read, and then the new one is made.
use Rattle.std.proofs.Common.{refl}
use Rattle.std.specs.Prelude.{Ok}
use Rattle.planner_cli.proofs.stores.upgrade_device.Goals as goal

pub returns-in-Ok-clause-upgrades : goal.returns-in-Ok-clause-upgrades
returns-in-Ok-clause-upgrades g c = (c.read_version_1-read.new.old, Ok c.in-Ok.state, refl, c.in-Ok.ensures, (c.make_new_store-reported.ensures.requests, c.make_new_store-reported.ensures.makes))

-- Two cases: both paths lead to one file, or they do not.
use Rattle.std.proofs.Common.{inl, inr, refl}
use Rattle.planner_cli.proofs.stores.upgrade_distinct.Goals as goal

pub returns-then-is_same_file-clause-upgrades : goal.returns-then-is_same_file-clause-upgrades
returns-then-is_same_file-clause-upgrades g c = (g.X.DeviceFiles.requested c.is_same_file.new.self, c.is_same_file.result, (c.is_same_file.ensures, inl (c.if-is_same_file.true, refl, c.none.ensures, c.print_same_store.ensures)))

pub returns-clause-upgrades : goal.returns-clause-upgrades
returns-clause-upgrades g c = (g.X.DeviceFiles.requested c.is_same_file.new.self, c.is_same_file.result, (c.is_same_file.ensures, inr (c.if-is_same_file.false, c.upgrade_from_file.ensures.upgrades)))

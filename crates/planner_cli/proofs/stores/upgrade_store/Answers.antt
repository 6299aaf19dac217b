-- Two cases: the paths are equal, or they differ.
use Rattle.std.proofs.Common.{inr, rules}
use Rattle.std.specs.Prelude.{◌≢◌}
use Rattle.planner_cli.proofs.stores.upgrade_store.Goals as goal

pub returns-clause-upgrades : goal.returns-clause-upgrades
returns-clause-upgrades g c =
    let differ : c.args.old.now ≢ c.args.new.now = search rules in
    inr (differ, c.upgrade_distinct.ensures.upgrades)

-- The result of each subcommand is that of the function that executes it.
use Rattle.std.proofs.Common.{rules}
use Rattle.planner_cli.proofs.program.dispatch.Goals as goal

pub returns-in-Audit-clause-done : goal.returns-in-Audit-clause-done
returns-in-Audit-clause-done g c = rw c.in-Audit.is (let does = c.audit_files-reported.ensures.reported in search rules)

pub returns-in-Run-clause-done : goal.returns-in-Run-clause-done
returns-in-Run-clause-done g c = rw c.in-Run.is (let does = c.run_subcommand-reported.ensures.runs in let serves = c.run_subcommand-reported.ensures.serves in search rules)

pub returns-in-Upgrade-clause-done : goal.returns-in-Upgrade-clause-done
returns-in-Upgrade-clause-done g c = rw c.in-Upgrade.is (let does = c.upgrade_store-reported.ensures.upgrades in search rules)

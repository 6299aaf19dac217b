-- When a byte of `ok` is written, the device calls of its command have finished.
use Rattle.planner_cli.proofs.OkLemmas.{done_before, made_before}
use Rattle.planner_cli.proofs.laws.printed_ok_is_durable.Goals as goal

pub returns-clause-made : goal.returns-clause-made
returns-clause-made g c = made_before g.D.Sectors

pub returns-clause-done : goal.returns-clause-done
returns-clause-done g c = done_before g.D.Sectors

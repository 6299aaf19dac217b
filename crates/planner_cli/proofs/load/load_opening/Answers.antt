-- The instance is loaded into the store that was opened.
use Rattle.std.proofs.Common.{refl}
use Rattle.planner_cli.proofs.load.load_opening.Goals as goal

pub returns-in-Ok-clause-begins : goal.returns-in-Ok-clause-begins
returns-in-Ok-clause-begins g c = rw c.in-Ok.is (c.load_session-reported.result.1, refl, c.load_session-reported.ensures.begins)

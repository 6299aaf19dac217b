-- Serving an input is a run of the operations that it requests, with or without a crash, and it reports only
-- acknowledged operations.
use Rattle.command_server.proofs.CrashRecoveryLemmas.{served_headline, servings_are_runs}
use Rattle.command_server.proofs.AnswerOrderLemmas.{answers_come_after}
use Rattle.command_server.proofs.laws.crashed_servings_recover.Goals as goal

pub returns-clause-runs : goal.returns-clause-runs
returns-clause-runs g c = servings_are_runs g.D.Sectors

pub returns-clause-crashed : goal.returns-clause-crashed
returns-clause-crashed g c = served_headline g.D.Sectors g.E.Sectors c.recovery_keeps_every_acknowledged_command.ensures

pub returns-clause-reported : goal.returns-clause-reported
returns-clause-reported g c = answers_come_after g.D.Sectors

-- The text is that of the job's plan, with the requests that it leaves out.
use Rattle.std.proofs.Common.{rules}
use Rattle.plan_solve.proofs.printing.answer.Goals as goal

pub returns-clause-plan : goal.returns-clause-plan
returns-clause-plan c = record { job = search rules; text = search rules; unplanned = search rules; spells = c.in_ok-reported.ensures.spells }

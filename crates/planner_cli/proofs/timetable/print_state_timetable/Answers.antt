-- The timetable is that of a job's plan.
use Rattle.std.proofs.lemmas.Result.{IfOk-weaker}
use Rattle.planner_cli.proofs.timetable.print_state_timetable.Goals as goal

pub returns-in-Loaded-clause-reported : goal.returns-in-Loaded-clause-reported
returns-in-Loaded-clause-reported g c = rw c.in-Loaded.is (IfOk-weaker c.print_explanation_result.result _ _ (λ status reported. (c.plan_report.result, c.plan_report.ensures.tells, reported)) c.print_explanation_result.ensures)

-- The drawing is that of the job's plan.
use Rattle.std.proofs.lemmas.Result.{IfOk-weaker}
use Rattle.planner_cli.proofs.draw.draw_state.Goals as goal

pub returns-in-Loaded-clause-reported : goal.returns-in-Loaded-clause-reported
returns-in-Loaded-clause-reported g c = rw c.in-Loaded.is (IfOk-weaker c.print_draw_result.result _ _ (λ status reported. (c.draw_job.result, c.draw_job.ensures, reported)) c.print_draw_result.ensures)

-- The solution describes no plan for the state's problem, for this reason.
use Rattle.std.proofs.Common.{Err, subst}
use Rattle.command_types.specs.Job.{JobValue}
use Rattle.vehicle_assignment.specs.AssignedPlan.{IsFoundOrOutOfMemory}
use Rattle.planner_cli.proofs.adopt.plan_of_text.Goals as goal

pub returns-in-Err : goal.returns-in-Err
returns-in-Err c = rw c.in-Loaded.is (subst (λ (j : JobValue). IsFoundOrOutOfMemory j.problem j.pins c.args.text.now (Err c.in-Err.unseated)) c.job.view_is c.in-Err.ensures)

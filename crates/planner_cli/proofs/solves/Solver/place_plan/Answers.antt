-- Either the plan is audited and written, or memory for its audit ran out.
use Rattle.std.proofs.Common.{[], inr, refl}
use Rattle.std.proofs.lemmas.Result.{IfOk-weaker}
use Rattle.plan_solve.specs.declared.faults.SolveFault.TheVariants.{OutOfMemory}
use Rattle.planner_cli.specs.Solve.{fault_line}
use Rattle.planner_cli.proofs.solves.Solver.place_plan.Goals as goal

pub returns-in-Ok-clause-does : goal.returns-in-Ok-clause-does
returns-in-Ok-clause-does g c = record {
  kept = c.write_plan.ensures.does.kept;
  reported = IfOk-weaker c.write_plan.result _ _ (λ status reported. reported c.args.self.now.tasks.format c.args.instance.now c.in-Ok.ensures.audited) c.write_plan.ensures.does.reported;
}

pub returns-in-Err-clause-does : goal.returns-in-Err-clause-does
returns-in-Err-clause-does g c = record {
  kept = ([], refl);
  reported = IfOk-weaker c.print_solve_fault.result _ _ (λ status reported. (fault_line OutOfMemory, inr (inr (record { same = refl; line = refl; status_is = reported.0 })), reported.1)) c.print_solve_fault.ensures.reported;
}

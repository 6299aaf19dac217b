-- Either the plan is written, or the reason why there is none is printed.
use Rattle.std.proofs.Common.{[], refl}
use Rattle.std.proofs.lemmas.Result.{IfOk-weaker}
use Rattle.planner_cli.specs.Solve.{fault_line}
use Rattle.planner_cli.proofs.solves.Solver.place.Goals as goal

pub returns-in-Ok-clause-does : goal.returns-in-Ok-clause-does
returns-in-Ok-clause-does g c = rw c.in-Ok.is c.place_plan.ensures.does

pub returns-in-Err-clause-does : goal.returns-in-Err-clause-does
returns-in-Err-clause-does g c =
    rw c.in-Err.is (record {
      kept = ([], refl);
      reported = IfOk-weaker c.print_solve_fault.result _ _ (λ status reported. (fault_line c.in-Err.fault, record { same = refl; line = refl; status_is = reported.0 }, reported.1)) c.print_solve_fault.ensures.reported;
    })

-- If rules 3 to 8 hold, each route is feasible alone.
use Rattle.plan_audit.proofs.LawProofs.{routes_are_feasible}
use Rattle.plan_audit.proofs.laws.routes_that_pass_are_feasible_alone.Goals as goal

pub returns : goal.returns
returns c = routes_are_feasible

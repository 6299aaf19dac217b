-- The test `feasible_alone` is true exactly if the route is feasible alone.
use Rattle.plan_audit.proofs.TestLemmas.{feasible_alone_decides_feasibility}
use Rattle.plan_audit.proofs.laws.feasible_alone_decides_feasibility.Goals as goal

pub returns : goal.returns
returns c = feasible_alone_decides_feasibility

-- Routes have the verdict of a solution that prints them with their distance.
use Rattle.plan_audit.proofs.RoutesLemmas.{routes_are_judged_by_true_cost}
use Rattle.plan_audit.proofs.laws.routes_are_judged_by_true_cost.Goals as goal

pub returns : goal.returns
returns c = routes_are_judged_by_true_cost

-- A solution that passes as printed also passes once vehicles are assigned to its routes.
use Rattle.vehicle_assignment.proofs.PassLemmas.{assigned_plans_pass}
use Rattle.vehicle_assignment.proofs.laws.assigned_plans_pass.Goals as goal

pub returns : goal.returns
returns c = assigned_plans_pass

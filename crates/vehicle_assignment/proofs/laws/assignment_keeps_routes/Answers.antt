-- The assigned routes of a plan are the routes of the solution.
use Rattle.vehicle_assignment.proofs.AssignedLemmas.{assignment_keeps_routes}
use Rattle.vehicle_assignment.proofs.laws.assignment_keeps_routes.Goals as goal

pub returns : goal.returns
returns c = assignment_keeps_routes

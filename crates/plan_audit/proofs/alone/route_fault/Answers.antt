-- The result is the number of the first rule that the route breaks as the only route.
use Rattle.plan_audit.proofs.alone.route_fault.Goals as goal

pub returns-in-Some : goal.returns-in-Some
returns-in-Some c = (c.in-Some.rule, c.number.ensures, c.in-Some.ensures)

-- The first of the remaining routes that gets none of the remaining vehicles is the first of all routes that
-- gets none.
use Rattle.std.proofs.Common.{◌≡◌, drop}
use Rattle.plan_audit.specs.FirstFault.{first_route_beyond}
use Rattle.plan_audit.proofs.fleet.first_route_beyond.Given as goal

abbrev pub invariant-loop-number : goal.invariant-loop-number
invariant-loop-number l = first_route_beyond l.left l.number (drop l.number l.routes) ≡ first_route_beyond l.fleet 0 l.routes

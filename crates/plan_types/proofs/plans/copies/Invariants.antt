-- The copies so far equal the routes so far, so after the last route they equal all routes.
use Rattle.std.proofs.Common.{◌≡◌, take}
use Rattle.plan_types.proofs.plans.copies.Given as goal

abbrev pub invariant-loop-route : goal.invariant-loop-route
invariant-loop-route l = l.copies.items ≡ take l.route-index l.routes

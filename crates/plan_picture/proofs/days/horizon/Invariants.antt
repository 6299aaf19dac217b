-- The latest time so far, or a later one in the remaining routes, is the latest of all.
use Rattle.std.proofs.Common.{◌≡◌, drop}
use Rattle.plan_picture.specs.Days.{horizon}
use Rattle.plan_picture.proofs.days.horizon.Given as goal

abbrev pub invariant-loop-route : goal.invariant-loop-route
invariant-loop-route l = horizon l.problem l.last (drop l.route-index l.routes) ≡ horizon l.problem l.problem.depot.latest l.routes

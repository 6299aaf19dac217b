-- The used routes so far, followed by those among the remaining routes, are all used routes.
use Rattle.std.proofs.Common.{◌≡◌, ◌++◌}
use Rattle.std.specs.Vec.Iter.{into_iter_items}
use Rattle.route_sched.specs.Cost.{used_routes}
use Rattle.vehicle_assignment.proofs.fill.used_routes.Given as goal

abbrev pub invariant-loop-route : goal.invariant-loop-route
invariant-loop-route l = l.used ++ used_routes (into_iter_items l.route-iterator) ≡ used_routes l.fn.routes

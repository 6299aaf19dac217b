-- The remaining routes lead to the same result as all routes.
use Rattle.std.proofs.Common.{◌≡◌, drop}
use Rattle.plan_picture.specs.DrawnStops.{is_served}
use Rattle.plan_picture.proofs.drawn_stops.is_served.Given as goal

abbrev pub invariant-loop-route : goal.invariant-loop-route
invariant-loop-route l = is_served (drop l.route-index l.routes) l.number ≡ is_served l.routes l.number

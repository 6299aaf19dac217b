-- The routes so far, followed by the drawn parts of the remaining ones, are the drawn parts of all routes.
use Rattle.std.proofs.Common.{◌≡◌, ◌++◌, All, map, drop}
use Rattle.route_sched.specs.Route.{AreDistinctStops}
use Rattle.plan_picture.specs.DrawnStops.{kept_of}
use Rattle.plan_picture.proofs.drawn_stops.kept_routes.Given as goal

abbrev pub invariant-loop-route : goal.invariant-loop-route
invariant-loop-route l = record {
  kept : l.kept.items ++ map (kept_of l.problem) (drop l.route-index l.routes) ≡ map (kept_of l.problem) l.routes;
  once : All (AreDistinctStops l.problem) l.kept.items;
}

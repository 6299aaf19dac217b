-- The stops kept so far, followed by those that are kept from the remaining route, are all kept stops.
use Rattle.std.proofs.Common.{◌≡◌, drop}
use Rattle.route_sched.specs.Route.{AreDistinctStops}
use Rattle.plan_picture.specs.DrawnStops.{kept_after, kept_of}
use Rattle.plan_picture.proofs.drawn_stops.kept_route.Given as goal

abbrev pub invariant-loop-number : goal.invariant-loop-number
invariant-loop-number l = record {
  kept : kept_after l.problem l.kept (drop l.number-index l.route) ≡ kept_of l.problem l.route;
  once : AreDistinctStops l.problem l.kept;
}

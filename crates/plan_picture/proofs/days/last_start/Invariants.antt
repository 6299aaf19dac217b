-- The latest time so far, or a later one among the remaining starts, is the latest of all.
use Rattle.std.proofs.Common.{◌≡◌}
use Rattle.route_sched.specs.VisitList.{visits_from}
use Rattle.plan_picture.specs.Days.{last_start}
use Rattle.plan_picture.specs.DrawnStops.{visits_of}
use Rattle.plan_picture.proofs.days.last_start.Given as goal

abbrev pub invariant-loop-visit : goal.invariant-loop-visit
invariant-loop-visit l =
    let left = visits_from l.visit-iterator.problem l.visit-iterator.route l.visit-iterator.place in
    last_start l.last left ≡ last_start l.first (visits_of l.problem l.route)

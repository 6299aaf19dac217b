-- The text so far, followed by that of the remaining visits, is the whole text.
use Rattle.std.proofs.Common.{◌≡◌, ◌++◌}
use Rattle.route_sched.specs.VisitList.{visits_from}
use Rattle.plan_picture.specs.Days.{visits_text}
use Rattle.plan_picture.specs.DrawnStops.{visits_of}
use Rattle.plan_picture.proofs.svg.Svg.put_visits.Given as goal

abbrev pub invariant-loop-visit : goal.invariant-loop-visit
invariant-loop-visit l =
    let left = visits_from l.visit-iterator.problem l.visit-iterator.route l.visit-iterator.place in
    l.self ++ visits_text l.start l.service left ≡ l.fn.self ++ visits_text l.fn.first 0 (visits_of l.problem l.route)

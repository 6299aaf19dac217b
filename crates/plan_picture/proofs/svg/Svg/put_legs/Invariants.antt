-- The text so far, followed by that of the legs to the remaining visits, is the whole text.
use Rattle.std.proofs.Common.{◌≡◌, ◌++◌}
use Rattle.route_sched.specs.VisitList.{visits_from}
use Rattle.plan_picture.specs.DrawnStops.{visits_of}
use Rattle.plan_picture.specs.Map.{legs_text}
use Rattle.plan_picture.proofs.svg.Svg.put_legs.Given as goal

abbrev pub invariant-loop-visit : goal.invariant-loop-visit
invariant-loop-visit l =
    let left = visits_from l.visit-iterator.problem l.visit-iterator.route l.visit-iterator.place in
    l.self ++ legs_text l.frame l.last left ≡ l.fn.self ++ legs_text l.frame l.depot (visits_of l.problem l.route)

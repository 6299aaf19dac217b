-- The greatest load so far, or a greater one among the remaining loads, is the greatest of all.
use Rattle.std.proofs.Common.{◌≡◌, map, fold}
use Rattle.std.specs.Int.{int_max}
use Rattle.route_sched.specs.VisitList.{visits_from}
use Rattle.plan_picture.specs.DrawnStops.{visits_of}
use Rattle.plan_picture.specs.Table.{top_load}
use Rattle.plan_picture.proofs.table.top_load.Given as goal

abbrev pub invariant-loop-visit : goal.invariant-loop-visit
invariant-loop-visit l =
    let left = visits_from l.visit-iterator.problem l.visit-iterator.route l.visit-iterator.place in
    fold int_max l.top (map (λ v. v.load) left) ≡ top_load (visits_of l.problem l.route)

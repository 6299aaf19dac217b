-- The distance so far plus the distance of the remaining visits is the whole distance. If the remaining visits
-- keep the limits, so does the route.
use Rattle.std.proofs.Common.{◌≡◌, ◌+◌, false}
use Rattle.std.specs.List.{AllByRecursion}
use Rattle.route_sched.specs.Schedule.{route_length}
use Rattle.route_sched.specs.VisitList.{visits_from}
use Rattle.plan_audit.specs.FirstFault.{breaks_limits, KeepsLimits}
use Rattle.plan_audit.proofs.DriveLemmas.{legs}
use Rattle.plan_audit.proofs.timing.distance_within_limits.Given as goal

abbrev pub invariant-loop-visit : goal.invariant-loop-visit
invariant-loop-visit l =
    let left = visits_from l.visit-iterator.problem l.visit-iterator.route l.visit-iterator.place in
    record {
      way : l.length + legs left ≡ route_length l.problem l.route;
      kept : AllByRecursion (λ v. breaks_limits l.problem v ≡ false) left → KeepsLimits l.problem l.route;
    }

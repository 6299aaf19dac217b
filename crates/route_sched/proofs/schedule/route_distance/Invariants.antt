-- The sum is the distance up to this place, at most 2,828,427 for each leg, and the last stop is the stop at
-- this place.
use Rattle.std.proofs.Common.{◌≡◌, ◌*◌, ◌≤◌, length}
use Rattle.plan_types.specs.Limits.{IsVisit}
use Rattle.route_sched.specs.Route.{place}
use Rattle.route_sched.proofs.Steps.{length_before}
use Rattle.route_sched.proofs.schedule.route_distance.Given as goal

abbrev pub invariant-loop-k : goal.invariant-loop-k
invariant-loop-k l = record {
  few : length l.route ≤ 40001;
  last : l.last ≡ place l.problem l.route l.k;
  visit : IsVisit l.last;
  sum : l.distance ≡ length_before l.problem l.route l.k;
  bound : l.distance ≤ 2828427 * l.k;
}

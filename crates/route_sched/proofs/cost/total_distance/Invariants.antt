-- The total is the distance of the routes so far, at most 5,656,854 for each of their stops. The distance of
-- one route is below 2^64, so the total fits a `u128`.
use Rattle.std.proofs.Common.{◌≡◌, ◌≤◌, ◌*◌, ◌^◌, length, take}
use Rattle.std.specs.List.{concat, sum_by}
use Rattle.route_sched.specs.Schedule.{route_length}
use Rattle.route_sched.proofs.cost.total_distance.Given as goal

abbrev pub invariant-loop-route : goal.invariant-loop-route
invariant-loop-route l = record {
  sum : l.total ≡ sum_by (route_length l.problem) (take l.route-index l.routes);
  legs : l.total ≤ 5656854 * length (concat (take l.route-index l.routes));
  bound : l.total ≤ 2 ^ 64 * l.route-index;
}

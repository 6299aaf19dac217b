-- The routes so far keep the limits, and the sum is their distance.
use Rattle.std.proofs.Common.{◌≡◌, ℕ, ◌<◌, [], get_or, take}
use Rattle.std.specs.List.{sum_by}
use Rattle.route_sched.specs.Schedule.{route_length}
use Rattle.plan_audit.specs.FirstFault.{KeepsLimits}
use Rattle.plan_audit.proofs.timing.cost_within_limits.Given as goal

abbrev pub invariant-loop-route : goal.invariant-loop-route
invariant-loop-route l = record {
  kept : (k : ℕ) → k < l.route-index → KeepsLimits l.problem (get_or l.routes k []);
  way : l.distance ≡ sum_by (route_length l.problem) (take l.route-index l.routes);
}

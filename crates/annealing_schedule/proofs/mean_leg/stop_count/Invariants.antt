-- The count so far, plus the number of stops of the remaining requests, is the number of all stops.
use Rattle.std.proofs.Common.{◌≡◌, ◌+◌, ◌*◌, ◌≤◌, length, drop}
use Rattle.plan_types.specs.Instance.{numbers_among}
use Rattle.annealing_schedule.proofs.mean_leg.stop_count.Given as goal

abbrev pub invariant-loop-index : goal.invariant-loop-index
invariant-loop-index l = record {
  counted : l.count + length (numbers_among (drop l.index l.problem.requests)) ≡ length (numbers_among l.problem.requests);
  bound : l.count ≤ 2 * l.index;
}

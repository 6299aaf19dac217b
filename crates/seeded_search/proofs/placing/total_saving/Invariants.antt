-- The sum so far and the greatest saving by the remaining requests make the greatest saving by all; and the sum
-- does not overflow.
use Rattle.std.proofs.Common.{◌≡◌, ◌+◌, ◌*◌, ◌^◌, ◌≤◌, drop}
use Rattle.std.specs.Prelude.{sum_by}
use Rattle.move_ops.specs.Savings.{max_saving}
use Rattle.seeded_search.proofs.placing.total_saving.Given as goal

abbrev pub invariant-loop-name : goal.invariant-loop-name
invariant-loop-name l = record {
  sum : l.saved + sum_by (max_saving l.problem) (drop l.name-index l.names) ≡ sum_by (max_saving l.problem) l.names;
  few : l.saved ≤ l.name-index * 2 ^ 64;
}

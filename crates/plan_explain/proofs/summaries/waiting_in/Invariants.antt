-- The sum so far is that of the routes so far. It is at most 2^64 for each of them, so it does not overflow.
use Rattle.std.proofs.Common.{◌≡◌, ◌≤◌, ◌*◌, ◌^◌, take}
use Rattle.std.specs.List.{sum_by}
use Rattle.plan_explain.proofs.summaries.waiting_in.Given as goal

abbrev pub invariant-loop-summary : goal.invariant-loop-summary
invariant-loop-summary l = record {
  sum : l.waiting ≡ sum_by (λ s. s.waiting) (take l.summary-index l.summaries);
  bound : l.waiting ≤ 2 ^ 64 * l.summary-index;
}

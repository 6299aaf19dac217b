-- The sum so far is the waiting time of the rows so far, and at most the start at the current place.
use Rattle.std.proofs.Common.{◌≡◌, ◌≤◌, take}
use Rattle.std.specs.List.{sum_by}
use Rattle.route_sched.specs.Schedule.{start}
use Rattle.plan_explain.specs.Summaries.{waiting_time}
use Rattle.plan_explain.proofs.summaries.waiting.Given as goal

abbrev pub invariant-loop-row : goal.invariant-loop-row
invariant-loop-row l = record {
  sum : l.waiting ≡ sum_by waiting_time (take l.row-index l.rows);
  bound : l.waiting ≤ start l.problem l.route l.row-index;
}

-- The waiting time up to the next place is at most the start there, so the sum does not overflow.
use Rattle.std.proofs.Common.{pos, arith}
use Rattle.std.proofs.lemmas.List.Sums.{sum_by_more}
use Rattle.plan_explain.specs.Summaries.{waiting_time}
use Rattle.plan_explain.proofs.RowLemmas.{waits_on}
use Rattle.plan_explain.specs.declared.rows.Row.{Row}
use Rattle.plan_explain.proofs.summaries.waiting.Goals as goal

no_row : Row
no_row = record { place = 0; stop = 0; arrival = 0; start = 0; earliest = 0; latest = 0; load = pos 0 }

pub overflow_add-waiting : goal.overflow_add-waiting
unfolding no_row
overflow_add-waiting c =
    let on =
    waits_on c.args.problem.now c.args.route.now c.args.rows.now c.loop-row.row-index no_row c.loop-row.waiting c.waiting_time-waiting.result
    c.requires c.loop-row-test.true c.loop-row.invariant.bound c.waiting_time-waiting.ensures.value in
    omega (arith, on.0, on.1, c.waiting_time-waiting.ensures.fits)

pub loop-row-preserved : goal.loop-row-preserved
unfolding no_row
loop-row-preserved c =
    let on =
    waits_on c.args.problem.now c.args.route.now c.args.rows.now c.loop-row.row-index no_row c.loop-row.waiting c.waiting_time-waiting.result
    c.requires c.loop-row-test.true c.loop-row.invariant.bound c.waiting_time-waiting.ensures.value in
    record {
      sum = omega (arith, sum_by_more waiting_time c.args.rows.now c.loop-row.row-index no_row c.loop-row-test.true, c.loop-row.invariant.sum, c.waiting_time-waiting.ensures.value);
      bound = on.0;
    }

-- Each request adds its stops to the count, and that many fewer stops remain.
use Rattle.std.proofs.Common.{◌≡◌, ◌+◌, length, drop, sym, subst, arith}
use Rattle.plan_types.specs.Instance.{numbers_among}
use Rattle.annealing_schedule.proofs.StageLemmas.{stops_more}
use Rattle.annealing_schedule.proofs.mean_leg.stop_count.Goals as goal

pub loop-index-preserved : goal.loop-index-preserved
loop-index-preserved c =
    let l = c.loop-index in
    let requests = c.args.problem.now.requests in
    let is = c.stops_at-count.ensures.count in
    let more = stops_more requests l.index l.count (length (numbers_among requests)) l.invariant.counted in
    record {
      counted = subst (λ n. l.count + n + length (numbers_among (drop (l.index + 1) requests)) ≡ length (numbers_among requests)) (sym is) more;
      bound = omega (arith, l.invariant.bound, c.stops_at-count.ensures.bound);
    }

-- If the last vehicle of a used part has no stops, the vehicles before it are a used part, too.
use Rattle.std.proofs.Common.{◌-◌, length, subst, ap, arith}
use Rattle.move_ops.specs.Drafts.{AreIdleAfter}
use Rattle.move_ops.specs.Tables.{plan_of}
use Rattle.move_ops.proofs.QueryLemmas.{route_at, stops_long}
use Rattle.move_ops.proofs.DraftLemmas.{idle_before}
use Rattle.move_ops.proofs.tours.used_len_of.Goals as goal

pub loop-used_len-preserved : goal.loop-used_len-preserved
loop-used_len-preserved c =
    let tours = c.args.tours.now in
    let k = c.loop-used_len.used_len - 1 in
    let within = c.loop-used_len.invariant.within in
    let t = c.index-tours-used_len.result in
    let long = stops_long tours k t c.index-tours-used_len.is (omega arith) in
    let at = ap length (route_at tours k t c.index-tours-used_len.is (omega arith)) in
    record {
      within = omega arith;
      idle = idle_before (plan_of tours) k (subst (λ n. AreIdleAfter n (plan_of tours)) (omega arith) c.loop-used_len.invariant.idle) (omega arith);
    }

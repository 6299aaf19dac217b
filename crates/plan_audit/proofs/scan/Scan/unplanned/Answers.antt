-- Each request that is not planned adds one to the count.
use Rattle.std.proofs.Common.{◌<◌, arith, true, false, length, is_some, sym, ap, ◌∙◌}
use Rattle.plan_types.specs.Instance.{Instance}
use Rattle.plan_audit.proofs.PairLemmas.{left_out_more}
use Rattle.plan_audit.proofs.scan.Scan.unplanned.Goals as goal
use Rattle.plan_audit.proofs.scan.Scan.unplanned.Goals.{then-is_some, else-is_some}

pub loop-index-preserved : goal.loop-index-preserved
loop-index-preserved c =
    let lt : c.loop-index.index < length c.args.self.now.problem.now.requests = omega (arith, ap (λ (p : Instance). length p.requests) c.problem.view_is) in
    let tells = ap is_some (sym c.unserved_at.ensures) ∙ sym c.is_some.ensures in
    elim c.if-is_some.branch [
      | then-is_some w ↦ (
          let more = left_out_more c.args.self.now.routes.now c.args.self.now.problem.now.requests c.loop-index.index true lt (tells ∙ w.if-is_some.true) in
          record { count = omega (arith, more, c.loop-index.invariant.count, w.unplanned-is); few = omega (arith, c.loop-index.invariant.few, w.unplanned-is) })
      | else-is_some w ↦ (
          let more = left_out_more c.args.self.now.routes.now c.args.self.now.problem.now.requests c.loop-index.index false lt (tells ∙ w.if-is_some.false) in
          record { count = omega (arith, more, c.loop-index.invariant.count, w.unplanned-is); few = omega (arith, c.loop-index.invariant.few, w.unplanned-is) })
    ]

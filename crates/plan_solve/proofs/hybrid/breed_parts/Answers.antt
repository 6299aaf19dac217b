-- Each later plan that the job adopts is one that the search may leave. After the last part all progress lines are
-- written.
use Rattle.std.proofs.Common.{◌≡◌, ◌+◌, ◌≤◌, subst}
use Rattle.plan_solve.specs.Solved.{twentieths}
use Rattle.plan_solve.proofs.HybridLemmas.{begins, ends, passes, reports_at}
use Rattle.plan_solve.proofs.hybrid.breed_parts.Goals as goal

pub loop-parts-init : goal.loop-parts-init
loop-parts-init g c = λ begun holds same.
    begins begun _ same c.args.iterations (g.W.Write.contents c.args.progress.now) (g.W.Write.contents c.write_progress_at-is_written.new.progress) c.write_progress_at-is_written.result _ _ _ _ c.in_ok-cost.ensures.cost holds
    c.in_ok-adopt_best.ensures c.in_ok-cost.ensures.job (λ t. (c.write_progress_at-is_written.ensures t).1)

pub loop-parts-preserved-then-done-mark : goal.loop-parts-preserved-then-done-mark
loop-parts-preserved-then-done-mark g c = λ begun holds same.
    let l = c.loop-parts in
    let before = g.W.Write.contents c.args.progress.now in
    let now = g.W.Write.contents l.progress in
    let next = g.W.Write.contents c.write_progress_at-is_written-then-done-mark.new.progress in
    let later = c.write_progress_at-is_written-then-done-mark.result in
    let is : c.twentieths-mark.result ≡ twentieths c.args.iterations (l.parts + 1) = c.twentieths-mark.ensures in
    let line = c.write_progress_at-is_written-then-done-mark.ensures in
    reports_at begun _ same c.args.iterations before now next l.is_written later l.planner _ _ _ l.done l.parts c.twentieths-mark.result c.in_ok-cost-2.ensures.cost is (l.invariant begun holds same) c.loop-parts-test.true
    c.if-done-mark.true c.in_ok-adopt_best-2.ensures c.in_ok-cost-2.ensures.job line

pub loop-parts-preserved : goal.loop-parts-preserved
loop-parts-preserved g c = λ begun holds same.
    let l = c.loop-parts in
    let is : c.twentieths-mark.result ≡ twentieths c.args.iterations (l.parts + 1) = c.twentieths-mark.ensures in
    passes begun _ same c.args.iterations (g.W.Write.contents c.args.progress.now) (g.W.Write.contents l.progress) l.is_written l.planner l.done l.parts (l.invariant begun holds same)
    c.loop-parts-test.true (subst (λ m. m ≤ l.done) is c.if-done-mark.false)

pub returns : goal.returns
returns g c = λ begun holds same.
    let l = c.loop-parts in
    ends begun _ same c.args.iterations (g.W.Write.contents c.args.progress.now) (g.W.Write.contents l.progress) l.is_written l.planner l.done l.parts (l.invariant begun holds same)
    c.loop-parts-test.false

-- Each part of the search continues from the steps of the last line. After the last part all progress lines are
-- written.
use Rattle.std.proofs.Common.{◌≡◌, ◌∙◌, ◌+◌, ◌-◌, ◌<◌, ◌≤◌, ap, subst, sym}
use Rattle.command_core.specs.Effects.{effect}
use Rattle.command_types.specs.declared.commands.Command.TheVariants.{Search}
use Rattle.plan_solve.specs.Solved.{twentieths}
use Rattle.plan_solve.proofs.SearchLemmas.{IsTelling, begins, ends, passes, tells}
use Rattle.plan_solve.proofs.search.search_parts.Goals as goal

pub loop-parts-init : goal.loop-parts-init
loop-parts-init g c = λ begun holds.
    let law = c.searches_add_up.ensures in
    begins law.two law.many begun c.args.steps (g.W.Write.contents c.args.progress.now) (g.W.Write.contents c.write_progress-is_written.new.progress) c.write_progress-is_written.result _ _ holds
    c.in_ok-job.ensures.job (λ t. (c.write_progress-is_written.ensures t).1)

pub loop-parts-preserved-then-done-mark : goal.loop-parts-preserved-then-done-mark
loop-parts-preserved-then-done-mark g c = λ begun holds.
    let law = c.searches_add_up.ensures in
    let l = c.loop-parts in
    let before = g.W.Write.contents c.args.progress.now in
    let now = g.W.Write.contents l.progress in
    let next = g.W.Write.contents c.write_progress-is_written-then-done-mark.new.progress in
    let later = c.write_progress-is_written-then-done-mark.result in
    let is : c.twentieths-mark.result ≡ twentieths c.args.steps (l.parts + 1) = c.twentieths-mark.ensures in
    subst (λ m. IsTelling begun c.args.steps before next later c.search.new.planner m (l.parts + 1)) (sym is)
    (tells law.two law.many begun c.args.steps before now next l.is_written later l.planner _ _ l.done l.parts (l.invariant begun holds) c.loop-parts-test.true
    (subst (λ m. l.done < m) is c.if-done-mark.true) (c.in_ok-search.ensures ∙ ap (λ m. effect l.planner (Search (m - l.done))) is) c.in_ok-job-2.ensures.job c.write_progress-is_written-then-done-mark.ensures)

pub loop-parts-preserved : goal.loop-parts-preserved
loop-parts-preserved g c = λ begun holds.
    let law = c.searches_add_up.ensures in
    let l = c.loop-parts in
    let is : c.twentieths-mark.result ≡ twentieths c.args.steps (l.parts + 1) = c.twentieths-mark.ensures in
    passes law.two law.many begun c.args.steps (g.W.Write.contents c.args.progress.now) (g.W.Write.contents l.progress) l.is_written l.planner l.done l.parts
    (l.invariant begun holds) c.loop-parts-test.true (subst (λ m. m ≤ l.done) is c.if-done-mark.false)

pub returns : goal.returns
returns g c = λ begun holds.
    let law = c.searches_add_up.ensures in
    let l = c.loop-parts in
    ends law.two law.many begun c.args.steps (g.W.Write.contents c.args.progress.now) (g.W.Write.contents l.progress) l.is_written l.planner l.done l.parts (l.invariant begun holds)
    c.loop-parts-test.false

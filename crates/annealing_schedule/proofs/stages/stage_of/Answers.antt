-- The first stage that ends after the step is its stage; the earlier ones are skipped.
use Rattle.std.proofs.Common.{◌+◌, ◌<◌, ◌≤◌, sym, ◌∙◌, subst}
use Rattle.annealing_schedule.specs.Stages.{boundary}
use Rattle.annealing_schedule.proofs.StageLemmas.{stage_begun, stage_found, stage_passed, stages_end}
use Rattle.annealing_schedule.proofs.stages.stage_of.Goals as goal

pub returns-then-step-boundary : goal.returns-then-step-boundary
returns-then-step-boundary c =
    let a = c.args in
    let l = c.loop-stage in
    let less : a.step < boundary a.from a.to (l.stage + 1) = subst (λ b. a.step < b) c.boundary.ensures.value c.if-step-boundary.true in
    sym (stage_begun a.from a.to a.step c.if-step-from.false ∙ sym l.invariant ∙ stage_found a.from a.to a.step l.stage c.loop-stage-test.true less)

pub loop-stage-preserved : goal.loop-stage-preserved
loop-stage-preserved c =
    let a = c.args in
    let l = c.loop-stage in
    let past : boundary a.from a.to (l.stage + 1) ≤ a.step = subst (λ b. b ≤ a.step) c.boundary.ensures.value c.if-step-boundary.false in
    sym (stage_passed a.from a.to a.step l.stage c.loop-stage-test.true past) ∙ l.invariant

pub returns : goal.returns
returns c =
    let a = c.args in
    let l = c.loop-stage in
    sym (stage_begun a.from a.to a.step c.if-step-from.false ∙ sym l.invariant ∙ stages_end a.from a.to a.step l.stage c.loop-stage-test.false)

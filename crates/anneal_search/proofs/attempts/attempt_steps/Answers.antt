-- After one more step of the attempt, the remaining steps lead to the result of all steps. If no step remains, or
-- no request is left out, the result is reached
use Rattle.std.proofs.Common.{rules, ◌≡◌, ◌+◌, ◌-◌, ◌<◌, ◌==◌, true, false, sym, ap, ◌∙◌, arith}
use Rattle.std.proofs.lemmas.Bool.{not-false, not-true}
use Rattle.plan_types.specs.declared.plans.Plan.{Plan}
use Rattle.seeded_search.specs.Generator.{NextStep}
use Rattle.anneal_search.specs.AttemptSteps.{attempt_state}
use Rattle.anneal_search.specs.AttemptState.{AttemptState, begun, attempt_steps}
use Rattle.anneal_search.proofs.AttemptLemmas.{step_off, step_on}
use Rattle.anneal_search.proofs.attempts.attempt_steps.Goals.{then-loop-attempt-test+else-leaves_out, else-loop-attempt-test}
use Rattle.anneal_search.proofs.attempts.attempt_steps.Goals as goal

pub loop-attempt-init : goal.loop-attempt-init
loop-attempt-init c =
    let attempt = c.in_ok-attempt.attempt in
    let is = c.in_ok-attempt.ensures in
    let none : c.args.most - attempt.made ≡ c.args.most = omega (arith, is.made) in
    record {
      seed = ap (λ (w : NextStep). w.seed) c.from_step-words.ensures;
      step = omega (arith, is.made, ap (λ (w : NextStep). w.step) c.from_step-words.ensures);
      most = omega (arith, is.made);
      attempt = is.attempt;
      left =
          ap (λ k. attempt_steps c.args.context.now.problem.now c.args.context.now.pins.now.routes c.args.context.now.deviation c.args.context.now.seed k (attempt_state c.args.step attempt)) none
          ∙ ap (attempt_steps c.args.context.now.problem.now c.args.context.now.pins.now.routes c.args.context.now.deviation c.args.context.now.seed c.args.most) (is.begun c.args.step);
    }

pub loop-attempt-preserved : goal.loop-attempt-preserved
loop-attempt-preserved c =
    let p = c.args.context.now.problem.now in
    let pins = c.args.context.now.pins.now.routes in
    let old = c.loop-attempt.attempt in
    let new = c.step.new.self in
    let before = c.loop-attempt.invariant in
    let within : old.made < c.args.most = search rules in
    let lacks : (old.annealing.search_state.best.unplanned == 0) ≡ false = not-true (old.annealing.search_state.best.unplanned == 0) (sym c.leaves_out.ensures ∙ c.if-leaves_out.true) in
    record {
      seed = ap (λ (w : NextStep). w.seed) c.next_step.ensures.after ∙ before.seed;
      step = omega (arith, before.step, ap (λ (w : NextStep). w.step) c.next_step.ensures.after, c.in_ok-step.ensures.made);
      most = omega (arith, within, c.in_ok-step.ensures.made);
      attempt = c.in_ok-step.ensures.attempt;
      left =
          ap (λ k. attempt_steps p pins c.args.context.now.deviation c.args.context.now.seed (c.args.most - k) (attempt_state c.args.step new)) c.in_ok-step.ensures.made
          ∙ step_on p pins c.args.context.now.deviation c.args.context.now.seed c.args.most old.made (attempt_state c.args.step old) (attempt_state c.args.step new)
          (attempt_steps p pins c.args.context.now.deviation c.args.context.now.seed c.args.most
          (begun p c.args.plan.now.routes c.args.step)) old.annealing.search_state.best c.next_step.result c.loop-attempt.words.seed c.loop-attempt.words.step before.left within
          before.attempt.annealing.search_state.keeps.best lacks c.next_step.ensures.words before.seed before.step (c.in_ok-step.ensures.tried c.args.step);
    }

pub returns : goal.returns
returns c =
    let p = c.args.context.now.problem.now in
    let pins = c.args.context.now.pins.now.routes in
    let last = c.loop-attempt.attempt in
    let is = c.loop-attempt.invariant in
    let off : last.made < c.args.most → (last.annealing.search_state.best.unplanned == 0) ≡ true =
    λ some. elim c.loop-attempt-test.branch [
      | then-loop-attempt-test+else-leaves_out w ↦ not-false (last.annealing.search_state.best.unplanned == 0) (sym w.leaves_out.ensures ∙ w.if-leaves_out.false)
      | else-loop-attempt-test w ↦ absurd (omega (arith, some, w.loop-attempt-test.false))
    ] in
    let same =
    step_off p pins c.args.context.now.deviation c.args.context.now.seed c.args.most last.made (attempt_state c.args.step last)
    (attempt_steps p pins c.args.context.now.deviation c.args.context.now.seed c.args.most (begun p c.args.plan.now.routes c.args.step))
    last.annealing.search_state.best is.left is.attempt.annealing.search_state.keeps.best off in
    record {
      tried = record {
        plan = ap (λ (plan : Plan). plan.routes) c.into_best.ensures ∙ ap (λ (t : AttemptState). t.incumbent) same;
        step = ap (λ n. c.args.step + n) c.from.ensures ∙ ap (λ (t : AttemptState). t.step) same;
      };
    }

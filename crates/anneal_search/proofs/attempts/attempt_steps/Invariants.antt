-- The remaining steps of the attempt lead to the result of all steps. After each step, fewer remain
use Rattle.std.proofs.Common.{◌≡◌, ◌+◌, ◌-◌, ◌≤◌}
use Rattle.anneal_search.specs.AttemptSteps.{IsAttempt, attempt_state}
use Rattle.anneal_search.specs.AttemptState.{begun, attempt_steps}
use Rattle.anneal_search.proofs.attempts.attempt_steps.Given as goal

abbrev pub invariant-loop-attempt : goal.invariant-loop-attempt
invariant-loop-attempt l = record {
  seed : l.words.seed ≡ l.context.seed;
  step : l.words.step ≡ l.step + l.attempt.made;
  most : l.attempt.made ≤ l.most;
  attempt : IsAttempt l.context.problem.now l.context.pins.now.routes l.attempt;
  left : attempt_steps l.context.problem.now l.context.pins.now.routes l.context.deviation l.context.seed (l.most - l.attempt.made) (attempt_state l.step l.attempt)
      ≡ attempt_steps l.context.problem.now l.context.pins.now.routes l.context.deviation l.context.seed l.most (begun l.context.problem.now l.plan.routes l.step);
}

abbrev pub decreases-loop-attempt : goal.decreases-loop-attempt
decreases-loop-attempt l = l.most - l.attempt.made

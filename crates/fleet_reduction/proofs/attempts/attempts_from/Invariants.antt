-- The remaining attempts lead to the result of all attempts.
use Rattle.std.proofs.Common.{◌≡◌, ◌+◌, ◌≤◌}
use Rattle.fleet_reduction.specs.Attempts.{max_attempts, attempts_from}
use Rattle.fleet_reduction.specs.ReductionStates.{attempts_by, attempts_left}
use Rattle.fleet_reduction.proofs.AttemptLemmas.{AtAttempts}
use Rattle.fleet_reduction.proofs.attempts.attempts_from.Given as goal

abbrev pub invariant-loop-attempts : goal.invariant-loop-attempts
invariant-loop-attempts g l = record {
  at : AtAttempts l.context.problem.now l.context.pins.now.routes l.context.seed l.count l.end
      (attempts_from l.context.problem.now l.context.pins.now.routes l.context.seed l.count l.end (max_attempts l.context.problem.now l.context.pins.now.routes l.count (attempts_by l.fn.attempts)) (attempts_by l.fn.attempts))
      (attempts_by l.attempts);
  end : l.end ≡ l.fn.attempts.step + l.count;
  first : l.fn.attempts.step ≤ l.attempts.step;
}

abbrev pub decreases-loop-attempts : goal.decreases-loop-attempts
decreases-loop-attempts g l = attempts_left l.context.problem.now l.end (attempts_by l.attempts)

-- If `from` is above `to`, no step has a stage. The end of the stage that is found is above the step.
use Rattle.std.proofs.Common.{◌≡◌, ◌<◌, ◌≤◌, ◌+◌, ℕ, Option, Some, None, sym, arith}
use Rattle.std.specs.Prelude.{IfSome}
use Rattle.annealing_schedule.specs.Stages.{boundary, stage_of}
use Rattle.command_text.proofs.StagingLemmas.{ends_of, few_stages, none_between}
use Rattle.command_text.proofs.staging.stage_of_step.Goals as goal

pub returns-then-to-from-clause-stage : goal.returns-then-to-from-clause-stage
returns-then-to-from-clause-stage c = sym (none_between c.args.from c.args.to c.args.step (omega (arith, c.if-to-from.true)))

within : (from to n : ℕ) → from ≤ to → (o : Option ℕ) → o ≡ stage_of from to n → IfSome o (λ k. (from ≤ to) × (k < 20) × (n < boundary from to (k + 1)))
within from to n order None e = tt
within from to n order (Some k) e = (order, (few_stages from to n k (sym e)).1, ends_of from to n k (sym e))

pub returns-clause-within : goal.returns-clause-within
returns-clause-within c = within c.args.from c.args.to c.args.step (omega (arith, c.if-to-from.false)) c.stage_of.result c.stage_of.ensures

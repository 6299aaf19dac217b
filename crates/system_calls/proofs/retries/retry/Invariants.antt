-- Each attempt so far was interrupted.
use Rattle.std.specs.Fn.{Called}
use Rattle.system_calls.specs.Retries.{AreInterrupted}
use Rattle.system_calls.proofs.retries.retry.Given as goal

abbrev pub invariant-loop-attempts : goal.invariant-loop-attempts
invariant-loop-attempts g l =
    goal.F-IsAlwaysCallable g l.call × AreInterrupted (λ f answer h. Called g.F.FnMut f tt answer h) l.initial.call l.attempts l.call

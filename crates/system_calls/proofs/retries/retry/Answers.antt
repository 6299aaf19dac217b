-- An interrupted attempt is one more.
use Rattle.std.proofs.Common.{of_calls, rules}
use Rattle.std.specs.Fn.{Called}
use Rattle.system_calls.proofs.RetryLemmas.{one_more}
use Rattle.system_calls.proofs.retries.retry.Goals as goal

pub loop-attempts-preserved : goal.loop-attempts-preserved
loop-attempts-preserved g c =
    (search of_calls, one_more (λ f answer h. Called g.F.FnMut f tt answer h) _ _ _ _ _ c.loop-attempts.invariant.1 c.call-answer.ensures (search rules))

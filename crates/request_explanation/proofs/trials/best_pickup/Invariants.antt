-- The best trial so far and the remaining places of the pickup lead to the best trial of all. The violations
-- before these places are known.
use Rattle.std.proofs.Common.{◌≡◌, ◌+◌, min, take, length}
use Rattle.plan_types.specs.declared.requests.Request.TheVariants.{Pair}
use Rattle.request_explanation.specs.Insertions.{violations_in}
use Rattle.request_explanation.specs.Trials.{best_from, best_trial}
use Rattle.request_explanation.proofs.TrialLemmas.{pairs}
use Rattle.request_explanation.proofs.trials.best_pickup.Given as goal

abbrev pub invariant-loop-at : goal.invariant-loop-at
invariant-loop-at l =
    (l.front ≡ violations_in l.problem (take (min l.at (length l.base.rows.now)) l.base.rows.now))
    × (best_from l.best (pairs l.problem l.route l.pickup l.delivery (l.at + 1)) ≡ best_trial l.problem l.route (Pair l.pickup l.delivery) l.kept)

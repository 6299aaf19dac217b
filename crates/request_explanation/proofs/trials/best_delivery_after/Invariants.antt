-- The violations found so far, the best trial so far and the remaining places lead to the same result as at the
-- first place of the delivery.
use Rattle.std.proofs.Common.{◌≡◌, ◌+◌, ◌-◌, take}
use Rattle.request_explanation.specs.Insertions.{violations_in}
use Rattle.request_explanation.specs.Trials.{best_from}
use Rattle.request_explanation.proofs.TrialLemmas.{deliveries}
use Rattle.request_explanation.proofs.trials.best_delivery_after.Given as goal

abbrev pub invariant-loop-following : goal.invariant-loop-following
invariant-loop-following l =
    (l.front ≡ violations_in l.problem (take (l.following - 1) l.tour.rows.now))
    × (best_from l.best (deliveries l.problem l.route l.pickup l.delivery l.place l.following) ≡ best_from l.fn.so_far (deliveries l.problem l.route l.pickup l.delivery l.place (l.place + 1)))

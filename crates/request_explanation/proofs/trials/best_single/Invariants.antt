-- The best trial so far and the remaining places lead to the best trial of all.
use Rattle.std.proofs.Common.{◌≡◌, ◌+◌}
use Rattle.plan_types.specs.declared.requests.Request.TheVariants.{Single}
use Rattle.request_explanation.specs.Trials.{best_from, best_trial}
use Rattle.request_explanation.proofs.TrialLemmas.{singles}
use Rattle.request_explanation.proofs.trials.best_single.Given as goal

abbrev pub invariant-loop-front : goal.invariant-loop-front
invariant-loop-front l = best_from l.best (singles l.problem l.route l.stop (l.front + 1)) ≡ best_trial l.problem l.route (Single l.stop) l.kept

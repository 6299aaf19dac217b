-- The request that may be tried is a single or a pair.
use Rattle.std.proofs.Common.{subst}
use Rattle.request_explanation.specs.Trials.{MayTake}
use Rattle.request_explanation.proofs.trials.best_trial.Goals as goal

pub best_single-requires : goal.best_single-requires
best_single-requires c = subst (λ r. MayTake c.args.problem.now r c.args.route.now) c.in-Single.is c.requires

pub best_pair-requires : goal.best_pair-requires
best_pair-requires c = subst (λ r. MayTake c.args.problem.now r c.args.route.now) c.in-Pair.is c.requires

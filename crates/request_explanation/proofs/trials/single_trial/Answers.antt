-- The stops of a route with the single are known and distinct.
use Rattle.std.proofs.Common.{◌∙◌, subst, sym}
use Rattle.route_sched.specs.Route.{AreDistinctStops}
use Rattle.request_explanation.proofs.trials.single_trial.Goals as goal

pub trial_of-requires : goal.trial_of-requires
trial_of-requires c = subst (AreDistinctStops c.args.problem.now) (sym (c.as_slice.ensures.value ∙ c.in_ok-tried.ensures)) (c.requires.once.once c.args.place c.args.place)

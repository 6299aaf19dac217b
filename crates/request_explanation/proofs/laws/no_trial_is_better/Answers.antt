-- The best of some trials is no worse than each of them.
use Rattle.request_explanation.proofs.BestLemmas.{none_is_better}
use Rattle.request_explanation.proofs.laws.no_trial_is_better.Goals as goal

pub returns : goal.returns
returns c = none_is_better

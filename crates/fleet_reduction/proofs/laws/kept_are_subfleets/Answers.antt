-- If at most `count` vehicles have a pin, at most `count` vehicles are kept, and all vehicles with a pin are among
-- them.
use Rattle.fleet_reduction.proofs.SubfleetLemmas.{kept_are_subfleets}
use Rattle.fleet_reduction.proofs.laws.kept_are_subfleets.Goals as goal

pub returns : goal.returns
returns c = kept_are_subfleets

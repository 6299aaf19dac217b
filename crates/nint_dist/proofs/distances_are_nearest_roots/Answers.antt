-- Each distance is the whole number nearest to the square root of the squared distance.
use Rattle.nint_dist.specs.Distance.{squared_distance, distance}
use Rattle.nint_dist.proofs.Roots.{nearest}
use Rattle.nint_dist.proofs.distances_are_nearest_roots.Goals as goal

pub returns : goal.returns
unfolding distance
returns c = λ a b. nearest (squared_distance a b)

-- A number has only one nearest root, so each method finds the one of the definition.
use Rattle.nint_dist.specs.NearestRoot.{nearest_root}
use Rattle.nint_dist.proofs.Roots.{nearest, same_root}
use Rattle.nint_dist.proofs.root.nint_root.Goals as goal

pub returns-then-s-lt-SMALL_LIMIT-clause-value : goal.returns-then-s-lt-SMALL_LIMIT-clause-value
returns-then-s-lt-SMALL_LIMIT-clause-value c = same_root c.args.s c.small_root.result (nearest_root c.args.s) c.small_root.ensures (nearest c.args.s)

pub returns-else-s-lt-SMALL_LIMIT-clause-value : goal.returns-else-s-lt-SMALL_LIMIT-clause-value
returns-else-s-lt-SMALL_LIMIT-clause-value c = same_root c.args.s c.large_root.result (nearest_root c.args.s) c.large_root.ensures (nearest c.args.s)

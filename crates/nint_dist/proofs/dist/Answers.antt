-- Two coordinates differ by at most 2,000,000, so the sum of the squares does not overflow, and its nearest
-- root is at most 2,828,427.
use Rattle.std.proofs.Common.{arith}
use Rattle.nint_dist.proofs.Distances.{squares_le, root_le}
use Rattle.nint_dist.proofs.dist.Goals as goal

pub overflow_add-dx : goal.overflow_add-dx
overflow_add-dx c =
    omega (arith, squares_le c.gap-dx.result c.gap-dy.result c.gap-dx.ensures.bound c.gap-dy.ensures.bound)

pub overflow_cast-result : goal.overflow_cast-result
overflow_cast-result c =
    omega (arith, root_le c.gap-dx.result c.gap-dy.result _ c.gap-dx.ensures.bound c.gap-dy.ensures.bound c.nint_root.ensures.nearest)

pub returns-clause-bound : goal.returns-clause-bound
returns-clause-bound c =
    root_le c.gap-dx.result c.gap-dy.result _ c.gap-dx.ensures.bound c.gap-dy.ensures.bound c.nint_root.ensures.nearest

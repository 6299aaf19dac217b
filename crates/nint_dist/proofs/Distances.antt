-- Upper bounds of distances.
use Rattle.std.proofs.Common.{ℕ, ◌+◌, ◌*◌, ◌≤◌, arith}
use Rattle.std.proofs.lemmas.Nat.{mul-le}
use Rattle.nint_dist.specs.NearestRoot.{IsNearestRoot}

-- the sum of two squared coordinate differences is at most 8,000,000,000,000
pub squares_le : (dx dy : ℕ) → dx ≤ 2000000 → dy ≤ 2000000 → dx * dx + dy * dy ≤ 8000000000000
squares_le dx dy p q = omega (arith, mul-le dx dx 2000000 2000000 p p, mul-le dy dy 2000000 2000000 q q)

-- 2,828,427 is the nearest root of 8,000,000,000,000
pub root_le : (dx dy d : ℕ) → dx ≤ 2000000 → dy ≤ 2000000 → IsNearestRoot (dx * dx + dy * dy) d → d ≤ 2828427
root_le dx dy d p q nearest = nearest.least 2828427 (omega (arith, squares_le dx dy p q))

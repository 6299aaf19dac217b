-- The whole number nearest to a square root: nint(sqrt(s)) of TSPLIB95, in whole numbers only.
use Rattle.std.specs.Prelude.{ℕ, zero, suc, ◌+◌, ◌*◌, ◌/◌, ◌≤◌, nat_le, nat_lt, if◌then◌else◌}

-- d is the smallest number with s ≤ d * (d + 1). Since (d + 1/2)² = d * (d + 1) + 1/4, it is the number nearest
-- to the square root of s.
pub record IsNearestRoot (s d : ℕ) : Type 0 where
  pub reaches : s ≤ d * (d + 1)
  pub least : (e : ℕ) → s ≤ e * (e + 1) → d ≤ e

-- if r is the whole part of the root of s / 4: the whole part of the root of s, which is 2 r or 2 r + 1
abbrev pub doubled_root : ℕ → ℕ → ℕ
doubled_root s r = if nat_le ((2 * r + 1) * (2 * r + 1)) s then 2 * r + 1 else 2 * r

-- the whole part of the root of s, in at most `depth` steps, each for two more bits of s
unfoldable pub whole_root : ℕ → ℕ → ℕ
whole_root zero s = 0
whole_root (suc depth) zero = 0
whole_root (suc depth) (suc s) = doubled_root (suc s) (whole_root depth (suc s / 4))

-- the number nearest to the root of s
unfoldable pub nearest_root : ℕ → ℕ
nearest_root s = let r = whole_root s s in if nat_lt (r * (r + 1)) s then r + 1 else r

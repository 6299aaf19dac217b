-- A detour through a third stop is shorter than the direct leg by at most 1.
use Rattle.std.proofs.Common.{◌≡◌, ℕ, ◌+◌, ◌-◌, ◌*◌, ◌<◌, ◌≤◌, ◌⊎◌, ◌-ℤ◌, arith, subst, inl, inr}
use Rattle.std.specs.Prelude.{unsigned_abs}
use Rattle.std.proofs.lemmas.Nat.{mul-le}
use Rattle.std.proofs.lemmas.Bool.{cases_lt}
use Rattle.std.proofs.lemmas.Int.{ints}
use Rattle.plan_types.specs.declared.requests.Stop.{Stop}
use Rattle.nint_dist.specs.Distance.{squared_distance, distance}
use Rattle.nint_dist.proofs.Roots.{nearest}

-- twice a product is at most the sum of the squares
product-ordered : (u t : ℕ) → u * (u + t) + u * (u + t) ≤ u * u + (u + t) * (u + t)
product-ordered u t = omega arith

pub product-le : (u v : ℕ) → u * v + u * v ≤ u * u + v * v
product-le u v = by (cases_lt u v)
  where
    by : (u < v) ⊎ (v ≤ u) → u * v + u * v ≤ u * u + v * v
    by (inl less) = let far : u + (v - u) ≡ v = omega arith in subst (λ w. u * w + u * w ≤ u * u + w * w) far (product-ordered u (v - u))
    by (inr more) =
        let far : v + (u - v) ≡ u = omega arith in
        let le = product-ordered v (u - v) in
        let there : v * u + v * u ≤ v * v + u * u = subst (λ w. v * w + v * w ≤ v * v + w * w) far le in
        omega arith

-- the product of two vectors is at most the product of their lengths (Cauchy-Schwarz)
vectors-le : (x y u v : ℕ) → (x * u + y * v) * (x * u + y * v) ≤ (x * x + y * y) * (u * u + v * v)
vectors-le x y u v = let le = product-le (x * v) (y * u) in omega arith

-- the bound on the product of two vectors, for rounded lengths
lengths-le : (s r c d e : ℕ) → s ≤ d * (d + 1) → r ≤ e * (e + 1) → c * c ≤ s * r → 2 * c ≤ 2 * (d * e) + d + e + 1
lengths-le s r c d e long wide product = by (cases_lt (2 * (d * e) + d + e + 1) (2 * c))
  where
    by : (2 * (d * e) + d + e + 1 < 2 * c) ⊎ (2 * c ≤ 2 * (d * e) + d + e + 1) → 2 * c ≤ 2 * (d * e) + d + e + 1
    by (inr le) = le
    by (inl less) =
        let rounded = mul-le s r (d * (d + 1)) (e * (e + 1)) long wide in
        let square = mul-le (2 * (d * e) + d + e + 2) (2 * (d * e) + d + e + 2) (2 * c) (2 * c) (omega arith) (omega arith) in
        absurd (omega arith)

-- the squared length of the sum of two vectors, bounded by their rounded lengths
sums-le : (x y u v d e : ℕ) → x * x + y * y ≤ d * (d + 1) → u * u + v * v ≤ e * (e + 1) → (x + u) * (x + u) + (y + v) * (y + v) ≤ (d + e + 1) * (d + e + 1 + 1)
sums-le x y u v d e long wide =
    let product = lengths-le (x * x + y * y) (u * u + v * v) (x * u + y * v) d e long wide (vectors-le x y u v) in
    omega arith

pub saves-one : (a b c : Stop) → distance a b ≤ distance a c + distance c b + 1
unfolding distance
saves-one a b c =
    let dx = unsigned_abs (a.x -ℤ b.x) in
    let dy = unsigned_abs (a.y -ℤ b.y) in
    let x = unsigned_abs (a.x -ℤ c.x) in
    let y = unsigned_abs (a.y -ℤ c.y) in
    let u = unsigned_abs (c.x -ℤ b.x) in
    let v = unsigned_abs (c.y -ℤ b.y) in
    let wide : dx ≤ x + u = omega (arith, ints) in
    let high : dy ≤ y + v = omega (arith, ints) in
    let square_x = mul-le dx dx (x + u) (x + u) wide wide in
    let square_y = mul-le dy dy (y + v) (y + v) high high in
    let both = sums-le x y u v (distance a c) (distance c b) (nearest (squared_distance a c)).reaches (nearest (squared_distance c b)).reaches in
    (nearest (squared_distance a b)).least (distance a c + distance c b + 1) (omega arith)

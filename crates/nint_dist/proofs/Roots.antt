-- The nearest root as it is computed is the smallest number that meets the definition.
use Rattle.std.proofs.Common.{◌≡◌, ℕ, zero, suc, ◌+◌, ◌-◌, ◌*◌, ◌/◌, ◌%◌, ◌<◌, ◌≤◌, Bool, true, false, ⊎_elim, cond, refl, sym, arith}
use Rattle.std.specs.Prelude.{nat_le, nat_lt}
use Rattle.std.proofs.Math.Nat.{suc-mul}
use Rattle.std.proofs.lemmas.Nat.{mul-le, div-add-mod', mod_below}
use Rattle.std.proofs.lemmas.Bool.{cases_lt, cond_both, ltb-true, ltb-false, leb-true, leb-false}
use mir.Val.{bool_byte}
use Rattle.nint_dist.specs.NearestRoot.{IsNearestRoot, doubled_root, whole_root, nearest_root}

-- r is the whole part of the root of s
record IsWholeRoot (s r : ℕ) : Type 0 where
  below : r * r ≤ s
  above : s < (r + 1) * (r + 1)

-- the whole part of the root of s, from the whole part of the root of s / 4
doubled : (s q t r : ℕ) → s ≡ q * 4 + t → t < 4 → IsWholeRoot q r → IsWholeRoot s (doubled_root s r)
doubled s q t r e h w =
    cond_both (nat_le ((2 * r + 1) * (2 * r + 1)) s) (2 * r + 1) (2 * r) (IsWholeRoot s)
    (λ yes. let reached : (2 * r + 1) * (2 * r + 1) ≤ s = leb-true _ _ yes in record { below = reached; above = omega arith })
    (λ no. let missed : s < (2 * r + 1) * (2 * r + 1) = leb-false _ _ no in record { below = omega arith; above = missed })

whole : (depth s : ℕ) → s ≤ depth → IsWholeRoot s (whole_root depth s)
unfolding whole_root
whole zero zero h = record { below = omega arith; above = omega arith }
whole zero (suc s) h = absurd (omega arith)
whole (suc depth) zero h = record { below = omega arith; above = omega arith }
whole (suc depth) (suc s) h =
    doubled (suc s) (suc s / 4) (suc s % 4) (whole_root depth (suc s / 4)) (sym (div-add-mod' (suc s) 4))
    (mod_below (suc s) 4 (omega arith)) (whole depth (suc s / 4) (omega arith))

-- if the number before d is too small, no smaller number is large enough
pub least_from : (s d : ℕ) → (0 < d → (d - 1) * d < s) → (e : ℕ) → s ≤ e * (e + 1) → d ≤ e
least_from s d before e h =
    ⊎_elim (λ (small : e < d). absurd (omega (arith, before (omega arith), mul-le e (e + 1) (d - 1) d (omega arith) (omega arith)))) (λ (k : d ≤ e). k)
    (cases_lt e d)

-- two nearest roots of one number are the same
pub same_root : (s d e : ℕ) → IsNearestRoot s d → IsNearestRoot s e → d ≡ e
same_root s d e p q = omega (arith, p.least e q.reaches, q.least d p.reaches)

-- a number times the one before it, plus the number, is its square
before_square : (r : ℕ) → 0 < r → (r - 1) * r + r ≡ r * r
before_square zero h = absurd (omega arith)
before_square (suc q) h =
    let one_less : suc q - 1 ≡ q = omega arith in rw one_less (sym (suc-mul q (suc q)))

-- if s is between the products for the numbers next to g, its nearest root is g or the next number
pub beside : (s g : ℕ) → (0 < g → g * (g + 1) < s + 2 * g) → s ≤ g * (g + 1) + 2 * g + 2 → IsNearestRoot s (cond (nat_lt (g * (g + 1)) s) (g + 1) g)
beside s g from to =
    cond_both (nat_lt (g * (g + 1)) s) (g + 1) g (IsNearestRoot s)
    (λ yes. let past : g * (g + 1) < s = ltb-true _ _ yes in record {
      reaches = omega (arith, to);
      least = least_from s (g + 1) (λ _. let one_less : g + 1 - 1 ≡ g = omega arith in rw one_less past);
    })
    (λ no. let within : s ≤ g * (g + 1) = ltb-false _ _ no in record {
      reaches = within;
      least = least_from s g (λ positive. omega (arith, from positive, before_square g positive));
    })

-- the next number or g itself, as a sum
pub as_sum : (g : ℕ) (above : Bool) → cond above (g + 1) g ≡ g + bool_byte above
as_sum g true = refl
as_sum g false = let same : g ≡ g + 0 = omega arith in same

-- the nearest root from the whole part of the root
rounded : (s r : ℕ) → IsWholeRoot s r → IsNearestRoot s (cond (nat_lt (r * (r + 1)) s) (r + 1) r)
rounded s r w = beside s r (λ positive. omega (arith, w.below)) (omega (arith, w.above))

pub nearest : (s : ℕ) → IsNearestRoot s (nearest_root s)
unfolding nearest_root
nearest s = rounded s (whole_root s s) (whole s s (omega arith))

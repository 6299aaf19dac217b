-- The number of words that pick each of m things.
use Rattle.std.proofs.Common.{◌≡◌, ℕ, ◌+◌, ◌*◌, ◌/◌, ◌<◌, ◌≤◌, ◌^◌, ◌⊎◌, inl, inr, ⊎_elim, arith}
use Rattle.std.specs.Int.{div_ceil}
use Rattle.std.proofs.Math.Nat.{div-eq_of_lt-le, div-mul-le_self, lt-div-mul-add}
use Rattle.std.proofs.lemmas.Nat.{mul-le}
use Rattle.std.proofs.lemmas.Bool.{cases_lt}
use Rattle.std.proofs.lemmas.Grind.{div_ceil_times}
use Rattle.seeded_search.specs.Words.{pick}
use Rattle.seeded_search.specs.Laws.{IsRunOfPicks}

-- the first word that picks k or more
first : ℕ → ℕ → ℕ
first m k = div_ceil (k * 2 ^ 32) m

-- w is the first word that picks k or more
record IsFirst (m k w : ℕ) : Type 0 where
  reaches : k * 2 ^ 32 ≤ w * m
  least : w * m < k * 2 ^ 32 + m

is_first : (m k : ℕ) → 0 < m → IsFirst m k (first m k)
unfolding first
is_first m k h = let bounds = div_ceil_times (k * 2 ^ 32) m h in record { reaches = bounds.0; least = bounds.1 }

-- multiplication by m keeps the order: if v is smaller than w, v m is smaller than w m by at least m
times_le : (m v w : ℕ) → v ≤ w → v * m ≤ w * m
times_le m v w h = mul-le v m w m h (omega arith)

times_lt : (m v w : ℕ) → v < w → v * m + m ≤ w * m
times_lt m v w h = omega (arith, times_le m (v + 1) w (omega arith))

from : (m k a w : ℕ) → IsFirst m k a → k * 2 ^ 32 ≤ w * m → a ≤ w
from m k a w f h = ⊎_elim (λ (below : w < a). absurd (omega (arith, times_lt m w a below, f.least))) (λ (le : a ≤ w). le) (cases_lt w a)

before : (m k a w : ℕ) → IsFirst m k a → w * m < k * 2 ^ 32 → w < a
before m k a w f h = ⊎_elim (λ (lt : w < a). lt) (λ (le : a ≤ w). absurd (omega (arith, times_le m a w le, f.reaches))) (cases_lt w a)

module _ (m k a b : ℕ) (f : IsFirst m k a) (g : IsFirst m (k + 1) b) where
  in_run : (w : ℕ) → pick w m ≡ k → (a ≤ w) × (w < b)
  in_run w e = (from m k a w f (omega arith), before m (k + 1) b w g (omega arith))

  picks_k : (w : ℕ) → (a ≤ w) × (w < b) → pick w m ≡ k
  picks_k w h =
      div-eq_of_lt-le (2 ^ 32) (omega (arith, times_le m a w h.0, f.reaches)) (omega (arith, times_lt m w b h.1, g.least))

  are_words : k < m → b ≤ 2 ^ 32
  are_words h = from m (k + 1) b (2 ^ 32) g (omega arith)

  -- q is 2 ^ 32 / m, rounded down
  module _ (q : ℕ) (fits : q * m ≤ 2 ^ 32) (greatest : 2 ^ 32 < q * m + m) where
    not_fewer : a + q ≤ b
    not_fewer =
        ⊎_elim (λ (less : b < a + q). absurd (omega (arith, times_lt m b (a + q) less, f.least, g.reaches))) (λ (le : a + q ≤ b). le) (cases_lt b (a + q))

    not_more : b ≤ a + q + 1
    not_more =
        ⊎_elim (λ (more : a + q + 1 < b). absurd (omega (arith, times_lt m (a + q + 1) b more, f.reaches, g.least))) (λ (le : b ≤ a + q + 1). le) (cases_lt (a + q + 1) b)

    even : (b ≡ a + q) ⊎ (b ≡ a + q + 1)
    even = ⊎_elim (λ (more : a + q < b). inr (omega (arith, not_more))) (λ (le : b ≤ a + q). inl (omega (arith, not_fewer))) (cases_lt (a + q) b)

pub picks : (m k : ℕ) → k < m → (a : ℕ) × (b : ℕ) × IsRunOfPicks m k a b
picks m k h =
    let positive : 0 < m = omega arith in let f = is_first m k positive in let g = is_first m (k + 1) positive in (
      first m k,
      first m (k + 1),
      record {
        picked = λ w. (in_run m k _ _ f g w, picks_k m k _ _ f g w);
        are_words = are_words m k _ _ f g h;
        even = even m k _ _ f g (2 ^ 32 / m) (div-mul-le_self (2 ^ 32) m) (lt-div-mul-add positive);
      },
    )

-- The generator's words before a step are the step's words.
use Rattle.std.proofs.Common.{◌≡◌, ℕ, ◌+◌, ◌*◌, ◌/◌, ◌%◌, ◌<◌, ◌^◌, List, map, refl, sym, ap, ◌∙◌, length, get_or, arith}
use Rattle.std.specs.Prelude.{slice_index}
use Rattle.std.specs.List.{range_with_len}
use Rattle.std.proofs.lemmas.List.{ext_get_or}
use Rattle.std.proofs.lemmas.List.FromFn.{length-map-range_with_len, get_or-map-range_with_len}
use Rattle.std.proofs.lemmas.Nat.{from_le_bytes-to_le_bytes_8}
use Rattle.rand_core.specs.Steps.{u32_at}
use Rattle.rand_chacha.specs.ChaCha.{ChaCha}
use Rattle.seeded_search.specs.Words.{block, word, step_words}
use Rattle.seeded_search.specs.Generator.{NextStep, before_step, next_step_of, IsBeforeStep, next_words}
use Rattle.seeded_search.proofs.BlockLemmas.{length-block, word_same}

-- a list of n items is `f` at the n numbers from `a` on, if item k is `f (a + k)`
pub listed : (f : ℕ → ℕ) (a n : ℕ) (xs : List ℕ) → length xs ≡ n → ((k : ℕ) → k < n → get_or xs k 0 ≡ f (a + k)) → xs ≡ map f (range_with_len a n)
listed f a n xs long h =
    ext_get_or 0 xs _ (long ∙ sym (length-map-range_with_len f a n)) (λ k lt. let below : k < n = omega arith in h k below ∙ sym (get_or-map-range_with_len f a n k (a + k) 0 below refl))

pub next_words_same : (s : NextStep) → next_words (before_step s) 16 ≡ step_words s.seed s.step
unfolding next_words step_words
next_words_same s = ap (λ (f : ℕ → ℕ). map f (range_with_len (16 * s.step) 16)) (λ i p. sym (word_same s.seed p) i)

-- the generator's key determines the seed
step_there : (s : NextStep) → s.seed < 2 ^ 64 → next_step_of (before_step s) ≡ s
unfolding u32_at
step_there s h =
    let seed : (next_step_of (before_step s)).seed ≡ s.seed = omega (arith, from_le_bytes-to_le_bytes_8 s.seed h) in
    let step : 16 * s.step / 16 ≡ s.step = omega arith in
    λ i. record { seed = seed i; step = step i }

pub step_seen : (g : ChaCha) (s : NextStep) → s.seed < 2 ^ 64 → g ≡ before_step s → next_step_of g ≡ s
step_seen g s h e = ap next_step_of e ∙ step_there s h

pub is_before_step : (g : ChaCha) (s : NextStep) → s.seed < 2 ^ 64 → g ≡ before_step s → IsBeforeStep g
is_before_step g s h e = e ∙ ap before_step (sym (step_seen g s h e))

pub step_is_block : (seed step : ℕ) → step_words seed step ≡ block seed step
unfolding step_words word
step_is_block seed step =
    sym (listed (word seed) (16 * step) 16 (block seed step) (length-block seed step)
    (λ k lt. let number : step ≡ (16 * step + k) / 16 = omega arith in let place : k ≡ (16 * step + k) % 16 = omega arith in
    ap (λ b. slice_index (block seed b) k) number ∙ ap (slice_index (block seed ((16 * step + k) / 16))) place))

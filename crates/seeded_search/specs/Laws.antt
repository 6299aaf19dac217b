-- The meaning of the definitions of words and picks.
use Rattle.std.specs.Prelude.{◌≡◌, ℕ, ◌+◌, ◌/◌, ◌<◌, ◌≤◌, ◌^◌, ◌↔◌, ◌⊎◌}
use Rattle.seeded_search.specs.Words.{block, step_words, pick}

-- the words of a step are exactly the block with its number, so no word belongs to two steps
abbrev pub StepsAreBlocks : Type 0
StepsAreBlocks = (seed step : ℕ) → step_words seed step ≡ block seed step

-- the words that pick k among m are those from `first` on and below `end`: 2 ^ 32 / m of them, rounded down, or
-- one more
pub record IsRunOfPicks (m k first end : ℕ) : Type 0 where
  pub picked : (w : ℕ) → (pick w m ≡ k) ↔ (first ≤ w) × (w < end)
  pub are_words : end ≤ 2 ^ 32
  pub even : (end ≡ first + 2 ^ 32 / m) ⊎ (end ≡ first + 2 ^ 32 / m + 1)

-- each of m things is picked by a run of words that `IsRunOfPicks` describes
abbrev pub PicksAreEven : Type 0
PicksAreEven = (m k : ℕ) → k < m → (first : ℕ) × (end : ℕ) × IsRunOfPicks m k first end

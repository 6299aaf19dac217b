-- The generator of rand_chacha before a step's words.
use Rattle.std.specs.Prelude.{◌≡◌, ℕ, ◌+◌, ◌*◌, ◌/◌, ◌^◌, List, map, slice_index}
use Rattle.std.specs.List.{range_with_len}
use Rattle.rand_chacha.specs.ChaCha.{ChaCha, key_of, word_at}
use Rattle.seeded_search.specs.Words.{key_bytes}

-- the seed and the step whose words come next
pub record NextStep : Type 0 where
  pub seed : ℕ
  pub step : ℕ

-- the generator of a seed before the words of a step
abbrev pub before_step : NextStep → ChaCha
before_step s = record { key = key_of (key_bytes s.seed); stream = 0; word_pos = 16 * s.step }

-- the step whose words a generator returns next; the key's first two words are the halves of the seed
abbrev pub next_step_of : ChaCha → NextStep
next_step_of g = record { seed = slice_index g.key 0 + slice_index g.key 1 * 2 ^ 32; step = g.word_pos / 16 }

-- the generator is before the words of a step
abbrev pub IsBeforeStep : ChaCha → Type 0
IsBeforeStep g = g ≡ before_step (next_step_of g)

-- the next n words
unfoldable pub next_words : ChaCha → ℕ → List ℕ
next_words g n = map (word_at 10 g.key g.stream) (range_with_len g.word_pos n)

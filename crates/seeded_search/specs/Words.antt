-- The random words of a search, and the numbers that words pick.
use Rattle.std.specs.Prelude.{ℕ, ◌*◌, ◌/◌, ◌%◌, ◌^◌, List, [], ◌∷◌, ◌++◌, map, replicate, slice_index}
use Rattle.std.specs.Int.{w64, to_le_bytes}
use Rattle.std.specs.List.{range_with_len}
use Rattle.seeded_search.specs.ChaCha20.{chacha20_block, words_of_bytes}

-- the key: the seed in 8 bytes, the low byte first, and 24 zero bytes
abbrev pub key_bytes : ℕ → List ℕ
key_bytes seed = to_le_bytes w64 seed ++ replicate 24 0

-- block b of a seed's key stream: the counter and the first word of the nonce, words 12 and 13 of the state,
-- are the low and the high half of b
unfoldable pub block : ℕ → ℕ → List ℕ
block seed b = chacha20_block (words_of_bytes (key_bytes seed)) (b % 2 ^ 32) (b / 2 ^ 32 ∷ 0 ∷ 0 ∷ [])

-- the word at place p of a seed's key stream, of which a block is sixteen words
unfoldable pub word : ℕ → ℕ → ℕ
word seed p = slice_index (block seed (p / 16)) (p % 16)

-- the words of a step: sixteen, from place 16 step on
unfoldable pub step_words : ℕ → ℕ → List ℕ
step_words seed step = map (word seed) (range_with_len (16 * step) 16)

-- the number, from 0 on, that the word w picks among m things
abbrev pub pick : ℕ → ℕ → ℕ
pick w m = w * m / 2 ^ 32

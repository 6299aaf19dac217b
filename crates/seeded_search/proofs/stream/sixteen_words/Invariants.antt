-- The generator is after the words so far, and each of them is the key stream's word at its place.
use Rattle.std.proofs.Common.{◌≡◌, ℕ, ◌+◌, ◌<◌, get_or}
use Rattle.rand_chacha.specs.ChaCha.{word_at}
use Rattle.seeded_search.proofs.stream.sixteen_words.Given as goal

abbrev pub invariant-loop-word : goal.invariant-loop-word
invariant-loop-word l = record {
  place : l.rng ≡ record l.fn.rng { word_pos = l.fn.rng.word_pos + l.word-index };
  written : (k : ℕ) → k < l.word-index → get_or l.word-items k 0 ≡ word_at 10 l.fn.rng.key l.fn.rng.stream (l.fn.rng.word_pos + k);
}

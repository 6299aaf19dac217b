-- Each word is the one that the generator has at this place, so all of them are its next sixteen words.
use Rattle.std.proofs.Common.{arith}
use Rattle.rand_chacha.specs.ChaCha.{word_at}
use Rattle.seeded_search.specs.Generator.{next_words}
use Rattle.seeded_search.proofs.StepLemmas.{listed}
use Rattle.seeded_search.proofs.stream.sixteen_words.Goals as goal

pub returns-clause-words : goal.returns-clause-words
unfolding next_words
returns-clause-words c =
    listed (word_at 10 c.args.rng.now.key c.args.rng.now.stream) c.args.rng.now.word_pos 16 c.loop-word.word-items c.loop-word-test.array_long
    (λ k lt. c.loop-word.invariant.written k (omega arith))

-- If a generator is at the beginning of a step, its next sixteen words are the words of this step.
use Rattle.std.proofs.Common.{ap, ◌∙◌}
use Rattle.rand_chacha.specs.ChaCha.{ChaCha}
use Rattle.seeded_search.specs.Words.{step_words}
use Rattle.seeded_search.specs.Generator.{NextStep, next_words, next_step_of}
use Rattle.seeded_search.proofs.StepLemmas.{next_words_same}
use Rattle.seeded_search.proofs.stream.StepWords.next_step.Goals as goal

pub returns-clause-words : goal.returns-clause-words
returns-clause-words c =
    c.sixteen_words.ensures.words ∙ ap (λ (g : ChaCha). next_words g 16) c.self.invariant ∙ next_words_same (next_step_of c.self.inside.rng)
    ∙ ap (λ (s : NextStep). step_words s.seed s.step) c.self.view_is

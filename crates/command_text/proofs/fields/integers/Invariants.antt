-- The numbers so far, followed by those of the remaining words, are the numbers of all words.
use Rattle.command_text.proofs.FieldLemmas.{TakesOn}
use Rattle.command_text.proofs.fields.integers.Given as goal

abbrev pub invariant-loop-word : goal.invariant-loop-word
invariant-loop-word l = TakesOn l.fn.words l.fields l.word-iterator

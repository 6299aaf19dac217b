-- The numbers drawn so far, followed by those that the remaining words draw from the remaining numbers, are all
-- numbers drawn.
use Rattle.std.proofs.Common.{◌≡◌, ◌++◌, drop}
use Rattle.seeded_search.specs.Steps.{drawn}
use Rattle.seeded_search.specs.Draws.{left_of, AreTaken}
use Rattle.seeded_search.proofs.draws.drawn.Given as goal

abbrev pub invariant-loop-word : goal.invariant-loop-word
invariant-loop-word l = record {
  drawn : l.names.items ++ drawn (drop l.word-index l.words) (left_of l.taken.items l.numbers) ≡ drawn l.words l.numbers;
  taken : AreTaken l.taken.items l.numbers;
}

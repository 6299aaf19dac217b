-- The customers so far, followed by those of the remaining words, are the customers of all words.
use Rattle.std.proofs.Common.{◌≡◌, ◌++◌}
use Rattle.std.specs.Option.{option_map}
use Rattle.text_lines.specs.Words.{words_of}
use Rattle.sol_text.specs.Reading.{customers_of}
use Rattle.sol_text.proofs.lines.read_route.Given as goal

abbrev pub invariant-loop-word : goal.invariant-loop-word
invariant-loop-word l = customers_of (words_of l.tail) ≡ option_map (λ ns. l.customers.items ++ ns) (customers_of l.word-iterator)

-- The first bad word among the remaining words is the first bad word of the whole line.
use Rattle.std.proofs.Common.{◌≡◌}
use Rattle.std.specs.Prelude.{find}
use Rattle.text_lines.specs.Words.{words_of}
use Rattle.plan_explain.specs.Quotes.{is_bad_customer}
use Rattle.plan_explain.proofs.sol_faults.first_bad_customer.Given as goal

abbrev pub invariant-loop-word : goal.invariant-loop-word
invariant-loop-word l = find is_bad_customer l.word-iterator ≡ find is_bad_customer (words_of l.tail)

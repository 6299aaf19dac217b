-- A number is a sign or none, digits, and optionally a point with only zeros after it.
use Rattle.text_lines.proofs.GrammarProofs.{are_numbers}
use Rattle.text_lines.proofs.laws.numbers_follow_grammar.Goals as goal

pub returns : goal.returns
returns c = are_numbers

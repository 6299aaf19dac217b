-- A line has a cost word exactly if it consists of `Cost`, a separator and this one word.
use Rattle.sol_text.proofs.ShapeLemmas.{cost_line_from_word, cost_word_from_line}
use Rattle.sol_text.proofs.laws.cost_lines_follow_grammar.Goals as goal

pub returns : goal.returns
returns c line word = (
  cost_line_from_word c.lines_split_into_words.ensures line word,
  cost_word_from_line c.lines_split_into_words.ensures line word,
)

-- A line has at most as many words as bytes.
use Rattle.text_lines.proofs.WordLemmas.{length-words_of-le}
use Rattle.text_lines.proofs.word_iter.Words.new.Goals as goal

pub returns-clause-few : goal.returns-clause-few
returns-clause-few c = length-words_of-le c.args.line.now

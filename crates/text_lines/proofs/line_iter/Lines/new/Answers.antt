-- A text has at most as many lines as bytes.
use Rattle.text_lines.proofs.PieceLemmas.{length-lines_of-le}
use Rattle.text_lines.proofs.line_iter.Lines.new.Goals as goal

pub returns-clause-few : goal.returns-clause-few
returns-clause-few c = length-lines_of-le c.args.text.now

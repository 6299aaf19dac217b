-- A line with a colon is its key, the colon and its value, with blanks around them.
use Rattle.instance_read.proofs.KeyLineProofs.{key_lines}
use Rattle.instance_read.proofs.laws.key_lines_follow_grammar.Goals as goal

pub returns : goal.returns
returns c = key_lines

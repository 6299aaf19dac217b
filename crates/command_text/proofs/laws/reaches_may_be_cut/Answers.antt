-- The command `reach N` ends in the same state if it is cut off and repeated.
use Rattle.command_text.proofs.ReachLemmas.{reached_lines_may_be_cut}
use Rattle.command_text.proofs.laws.reaches_may_be_cut.Goals as goal

pub returns : goal.returns
returns c = reached_lines_may_be_cut c.searches_add_up.ensures.many c.searches_add_up.ensures.two

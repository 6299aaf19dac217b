-- A line has customers exactly if it consists of `Route`, a number, a colon and these customers.
use Rattle.sol_text.proofs.ShapeLemmas.{route_line_from_tail, route_tail_from_line}
use Rattle.sol_text.proofs.laws.route_lines_follow_grammar.Goals as goal

pub returns : goal.returns
returns c line tail = (route_line_from_tail line tail, route_tail_from_line line tail)

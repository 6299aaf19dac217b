-- The last complete line ends with the last line feed and begins after the line feed before it. Without a line
-- feed there is no complete line.
use Rattle.command_server.proofs.LastLineLemmas.{has_none, is_last, is_last_after}
use Rattle.command_server.proofs.strict.last_lines_are_ended.Goals as goal

pub returns : goal.returns
returns c = record { first = is_last; following = is_last_after; none = has_none }

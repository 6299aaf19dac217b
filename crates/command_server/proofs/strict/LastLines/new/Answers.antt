-- The empty text has no line.
use Rattle.std.proofs.Common.{refl}
use Rattle.command_server.specs.Strict.{last_line_after, open_line_after}
use Rattle.command_server.proofs.strict.LastLines.new.Goals as goal

pub returns-clause-follows : goal.returns-clause-follows
unfolding open_line_after last_line_after
returns-clause-follows c = (c.new.ensures, refl)

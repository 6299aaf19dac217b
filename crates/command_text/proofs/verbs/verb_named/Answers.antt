-- The table has all commands.
use Rattle.command_text.specs.Parsing.{verb_named}
use Rattle.command_text.proofs.verbs.verb_named.Goals as goal

pub returns : goal.returns
unfolding verb_named
returns c = c.verb_among.ensures

-- The value is the first one of the argument's entry.
use Rattle.std.proofs.Common.{sym}
use Rattle.clap.specs.Words.{found_of}
use Rattle.command_line.proofs.CommandLemmas.{value_is}
use Rattle.command_line.proofs.matches.value_of.Goals as goal

pub returns : goal.returns
returns c = sym (value_is (found_of c.args.matches.now) c.args.name.now _ c.get_str.ensures)

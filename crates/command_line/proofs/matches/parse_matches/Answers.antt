-- The name and the rows are those of the subcommand that was used.
use Rattle.std.proofs.Common.{◌∙◌}
use Rattle.clap.specs.Words.{found_of, rows_of}
use Rattle.command_line.proofs.CommandLemmas.{reported_name}
use Rattle.command_line.proofs.matches.parse_matches.Goals as goal

pub returns-in-Some : goal.returns-in-Some
returns-in-Some c = c.parse_command.ensures ∙ reported_name c.args.matches.now _ (rows_of (found_of c.in-Some.words.now)) c.in-Some.ensures.name c.in-Some.ensures.rows

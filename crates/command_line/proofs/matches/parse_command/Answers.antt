-- The name is not one of those that take a solution.
use Rattle.std.proofs.Common.{◌∙◌, sym}
use Rattle.clap.specs.Words.{found_of, rows_of}
use Rattle.command_line.proofs.CommandLemmas.{reported_other}
use Rattle.command_line.proofs.matches.parse_command.Goals as goal

pub returns-in_default : goal.returns-in_default
returns-in_default c =
    c.parse_other_command.ensures
    ∙ sym (reported_other c.args.name.now (rows_of (found_of c.args.words.now)) c.in_default.not-audit c.in_default.not-explain)

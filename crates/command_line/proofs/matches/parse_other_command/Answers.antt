-- The name is one of those whose first argument is a store.
use Rattle.std.proofs.Common.{◌∙◌, sym}
use Rattle.clap.specs.Words.{found_of, rows_of}
use Rattle.command_line.proofs.CommandLemmas.{reported_store}
use Rattle.command_line.proofs.matches.parse_other_command.Goals as goal

pub returns-in_default : goal.returns-in_default
returns-in_default c = c.parse_store_command.ensures ∙ sym
    (reported_store c.args.name.now
    (rows_of
    (found_of c.args.words.now)) c.in_default.not-audits c.in_default.not-solve c.in_default.not-solves c.in_default.not-draw c.in_default.not-timetable)

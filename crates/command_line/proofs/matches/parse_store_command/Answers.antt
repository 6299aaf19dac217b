-- The only remaining name is `run`.
use Rattle.std.proofs.Common.{◌∙◌, sym}
use Rattle.clap.specs.Words.{found_of, rows_of}
use Rattle.command_line.proofs.CommandLemmas.{reported_run}
use Rattle.command_line.proofs.matches.parse_store_command.Goals as goal

pub returns-in_default : goal.returns-in_default
returns-in_default c = c.parse_run.ensures ∙ sym (reported_run c.args.name.now
    (rows_of
    (found_of c.args.words.now)) c.in_default.not-format c.in_default.not-load c.in_default.not-adopt c.in_default.not-instance c.in_default.not-check c.in_default.not-upgrade)

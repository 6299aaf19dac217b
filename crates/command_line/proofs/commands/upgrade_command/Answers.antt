-- The arguments make up the command.
use Rattle.std.proofs.Common.{codes}
use Rattle.clap.specs.Words.{new_app, with_rule}
use Rattle.command_line.specs.CommandLine.{required_rule}
use Rattle.command_line.proofs.commands.upgrade_command.Goals as goal

pub returns : goal.returns
returns c =
    let one = c.add_arg-command.ensures (new_app (codes "upgrade")) (required_rule (codes "OLD")) c.bare_command.ensures c.required_arg.ensures in
    c.add_arg.ensures (with_rule (new_app (codes "upgrade")) (required_rule (codes "OLD"))) (required_rule (codes "NEW")) one c.required_arg-2.ensures

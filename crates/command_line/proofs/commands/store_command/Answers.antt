-- The argument makes up the command.
use Rattle.std.proofs.Common.{codes}
use Rattle.clap.specs.Words.{new_app}
use Rattle.command_line.specs.CommandLine.{required_rule}
use Rattle.command_line.proofs.commands.store_command.Goals as goal

pub returns : goal.returns
returns c =
    c.add_arg.ensures (new_app c.args.name.now) (required_rule (codes "STORE")) c.bare_command.ensures c.required_arg.ensures

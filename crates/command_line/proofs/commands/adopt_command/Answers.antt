-- The arguments make up the command.
use Rattle.std.proofs.Common.{codes}
use Rattle.clap.specs.Words.{new_app, with_rule}
use Rattle.command_line.specs.CommandLine.{required_rule}
use Rattle.command_line.proofs.commands.adopt_command.Goals as goal

pub returns : goal.returns
returns c =
    let one = c.add_arg-command.ensures (new_app (codes "adopt")) (required_rule (codes "STORE")) c.bare_command.ensures c.required_arg.ensures in
    c.add_arg.ensures (with_rule (new_app (codes "adopt")) (required_rule (codes "STORE"))) (required_rule (codes "SOLUTION")) one c.required_solution_arg.ensures

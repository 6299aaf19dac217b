-- The arguments make up the command; the last one is optional.
use Rattle.std.proofs.Common.{codes}
use Rattle.clap.specs.Words.{new_app, with_rule}
use Rattle.command_line.specs.CommandLine.{mode_rule, required_rule}
use Rattle.command_line.proofs.commands.run_command.Goals as goal

pub returns : goal.returns
returns c =
    let one = c.add_arg-command.ensures (new_app (codes "run")) (required_rule (codes "STORE")) c.bare_command.ensures c.required_arg.ensures in
    c.add_arg.ensures (with_rule (new_app (codes "run")) (required_rule (codes "STORE"))) (mode_rule c.args.modes) one c.mode_arg.ensures

-- The arguments make up the command; the last one is optional.
use Rattle.std.proofs.Common.{codes}
use Rattle.clap.specs.Words.{new_app, new_rule, with_rule}
use Rattle.command_line.specs.CommandLine.{kind_rule, required_rule}
use Rattle.command_line.proofs.commands.load_command.Goals as goal

pub returns : goal.returns
returns c =
    let one = c.add_arg-command.ensures (new_app (codes "load")) (required_rule (codes "STORE")) c.bare_command.ensures c.required_arg.ensures in
    let store = with_rule (new_app (codes "load")) (required_rule (codes "STORE")) in
    let two = c.add_arg-command-2.ensures store (kind_rule c.args.kinds) one c.kind_arg.ensures in
    let kind = with_rule store (kind_rule c.args.kinds) in
    let three = c.add_arg-command-3.ensures kind (required_rule (codes "INSTANCE")) two c.instance_arg.ensures in
    c.add_arg.ensures (with_rule kind (required_rule (codes "INSTANCE"))) (new_rule (codes "SEED")) three c.seed_arg.ensures

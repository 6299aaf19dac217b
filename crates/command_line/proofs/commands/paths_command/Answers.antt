-- The arguments make up the command; the last one is optional.
use Rattle.std.proofs.Common.{codes}
use Rattle.clap.specs.Words.{new_app, new_rule, with_rule}
use Rattle.command_line.specs.CommandLine.{kind_app, kind_rule, required_rule}
use Rattle.command_line.proofs.commands.paths_command.Goals as goal

pub returns : goal.returns
returns c =
    let kind = kind_app c.args.name.now c.args.kinds in
    let instance = with_rule kind (required_rule (codes "INSTANCE")) in
    let one = c.add_arg-command.ensures (new_app c.args.name.now) (kind_rule c.args.kinds) c.bare_command.ensures c.kind_arg.ensures in
    let two = c.add_arg-command-2.ensures kind (required_rule (codes "INSTANCE")) one c.instance_arg.ensures in
    let three = c.add_arg-command-3.ensures instance (required_rule (codes "SOLUTION")) two c.required_solution_arg.ensures in
    c.add_arg.ensures (with_rule instance (required_rule (codes "SOLUTION"))) (new_rule (codes "routes")) three c.routes_arg.ensures

-- The arguments make up the command; the last two are optional.
use Rattle.std.proofs.Common.{codes}
use Rattle.clap.specs.Words.{new_app, new_rule, with_rule}
use Rattle.command_line.specs.CommandLine.{kind_app, kind_rule, required_rule}
use Rattle.command_line.proofs.commands.solve_command.Goals as goal

pub returns : goal.returns
returns c =
    let kind = kind_app (codes "solve") c.args.kinds in
    let one = c.add_arg-command.ensures (new_app (codes "solve")) (kind_rule c.args.kinds) c.bare_command.ensures c.kind_arg.ensures in
    let two = c.add_arg-command-2.ensures kind (required_rule (codes "INSTANCE")) one c.instance_arg.ensures in
    let instance = with_rule kind (required_rule (codes "INSTANCE")) in
    let three = c.add_arg-command-3.ensures instance (required_rule (codes "STEPS")) two c.required_arg.ensures in
    let steps = with_rule instance (required_rule (codes "STEPS")) in
    let four = c.add_arg-command-4.ensures steps (new_rule (codes "SEED")) three c.seed_arg.ensures in
    c.add_arg.ensures (with_rule steps (new_rule (codes "SEED"))) (new_rule (codes "DEVIATION")) four c.deviation_arg.ensures

-- The arguments are added one after another.
use Rattle.std.proofs.Common.{codes}
use Rattle.clap.specs.Words.{new_rule, with_rule}
use Rattle.command_line.specs.CommandLine.{required_rule}
use Rattle.command_line.proofs.commands.add_plan_args.Goals as goal

pub returns : goal.returns
returns c = λ a second last leaf is_second is_last.
    let one = c.add_arg-command.ensures a (required_rule (codes "STORE|KIND")) leaf c.required_arg.ensures in
    let one_app = with_rule a (required_rule (codes "STORE|KIND")) in
    let two = c.add_arg-command-2.ensures one_app second one is_second in
    let three = c.add_arg-command-3.ensures (with_rule one_app second) (new_rule (codes "SOLUTION")) two c.solution_arg.ensures in
    c.add_arg.ensures (with_rule (with_rule one_app second) (new_rule (codes "SOLUTION"))) last three is_last

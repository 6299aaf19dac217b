-- The arguments that name a store or a solution are added.
use Rattle.std.proofs.Common.{codes}
use Rattle.clap.specs.Words.{new_app, new_rule}
use Rattle.command_line.proofs.commands.draw_command.Goals as goal

pub returns : goal.returns
returns c = c.add_plan_args.ensures (new_app (codes "draw")) (new_rule (codes "ROUTE|INSTANCE")) (new_rule (codes "ROUTE")) c.bare_command.ensures c.route_or_instance_arg.ensures c.route_arg.ensures

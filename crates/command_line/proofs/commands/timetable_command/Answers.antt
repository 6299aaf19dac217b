-- The arguments that name a store or a solution are added.
use Rattle.std.proofs.Common.{codes}
use Rattle.clap.specs.Words.{new_app, new_rule}
use Rattle.command_line.proofs.commands.timetable_command.Goals as goal

pub returns : goal.returns
returns c = c.add_plan_args.ensures (new_app (codes "timetable")) (new_rule (codes "tabs|INSTANCE")) (new_rule (codes "tabs")) c.bare_command.ensures c.tabs_or_instance_arg.ensures c.tabs_arg.ensures

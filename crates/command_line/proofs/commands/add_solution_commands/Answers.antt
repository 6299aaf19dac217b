-- The commands are added one after another.
use Rattle.std.proofs.Common.{codes}
use Rattle.clap.specs.Words.{with_subcommand}
use Rattle.command_line.specs.CommandLine.{audits_app, draw_app, paths_app, timetable_app}
use Rattle.command_line.proofs.commands.add_solution_commands.Goals as goal

pub returns : goal.returns
returns c = λ a is.
    let names = c.args.kinds in
    let audit = with_subcommand a (paths_app (codes "audit") names).top in
    let audits = with_subcommand audit (audits_app names).top in
    let explain = with_subcommand audits (paths_app (codes "explain") names).top in
    let timetable = with_subcommand explain timetable_app.top in
    let one = c.add_subcommand-above.ensures a (paths_app (codes "audit") names) is c.paths_command-audit.ensures in
    let two = c.add_subcommand-above-2.ensures audit (audits_app names) one c.audits_command.ensures in
    let three = c.add_subcommand-above-3.ensures audits (paths_app (codes "explain") names) two c.paths_command-explain.ensures in
    let four = c.add_subcommand-above-4.ensures explain timetable_app three c.timetable_command.ensures in
    c.add_subcommand.ensures timetable draw_app four c.draw_command.ensures

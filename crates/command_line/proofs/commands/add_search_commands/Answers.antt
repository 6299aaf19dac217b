-- The commands are added one after another.
use Rattle.clap.specs.Words.{with_subcommand}
use Rattle.command_line.specs.CommandLine.{solve_app, solves_app}
use Rattle.command_line.proofs.commands.add_search_commands.Goals as goal

pub returns : goal.returns
returns c = λ a is.
    let names = c.args.kinds in
    let solve = with_subcommand a (solve_app names).top in
    let one = c.add_subcommand-above.ensures a (solve_app names) is c.solve_command.ensures in
    c.add_subcommand.ensures solve (solves_app names) one c.solves_command.ensures

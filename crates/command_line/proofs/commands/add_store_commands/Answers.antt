-- The commands are added one after another.
use Rattle.std.proofs.Common.{codes}
use Rattle.clap.specs.Words.{with_subcommand}
use Rattle.command_line.specs.CommandLine.{adopt_app, load_app, run_app, store_app, upgrade_app}
use Rattle.command_line.proofs.commands.add_store_commands.Goals as goal

pub returns : goal.returns
returns c = λ a is.
    let names = c.args.kinds in
    let format = with_subcommand a (store_app (codes "format")).top in
    let load = with_subcommand format (load_app names).top in
    let run = with_subcommand load (run_app c.args.modes).top in
    let adopt = with_subcommand run adopt_app.top in
    let instance = with_subcommand adopt (store_app (codes "instance")).top in
    let check = with_subcommand instance (store_app (codes "check")).top in
    let one = c.add_subcommand-above.ensures a (store_app (codes "format")) is c.store_command-format.ensures in
    let two = c.add_subcommand-above-2.ensures format (load_app names) one c.load_command.ensures in
    let three = c.add_subcommand-above-3.ensures load (run_app c.args.modes) two c.run_command.ensures in
    let four = c.add_subcommand-above-4.ensures run adopt_app three c.adopt_command.ensures in
    let five = c.add_subcommand-above-5.ensures adopt (store_app (codes "instance")) four c.store_command-instance.ensures in
    let six = c.add_subcommand-above-6.ensures instance (store_app (codes "check")) five c.store_command-check.ensures in
    c.add_subcommand.ensures check upgrade_app six c.upgrade_command.ensures

-- The arguments make up the command; the last one is optional.
use Rattle.std.proofs.Common.{codes}
use Rattle.clap.specs.Words.{new_app, new_rule, with_rule}
use Rattle.command_line.specs.CommandLine.{kind_app, kind_rule, required_rule}
use Rattle.command_line.proofs.commands.audits_command.Goals as goal

pub returns : goal.returns
returns c =
    let kind = kind_app (codes "audits") c.args.kinds in
    let one = c.add_arg-command.ensures (new_app (codes "audits")) (kind_rule c.args.kinds) c.bare_command.ensures c.kind_arg.ensures in
    let two = c.add_arg-command-2.ensures kind (required_rule (codes "LIST")) one c.list_arg.ensures in
    c.add_arg.ensures (with_rule kind (required_rule (codes "LIST"))) (new_rule (codes "routes")) two c.routes_arg.ensures

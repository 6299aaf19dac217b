-- The groups of subcommands are added to a command with a version, one after another.
use Rattle.std.proofs.Common.{◌≡◌, ◌∙◌, ap, codes, Bor, List, true}
use Rattle.std.proofs.lemmas.Result.{IfOk-weaker}
use Rattle.clap.specs.Simple.{app_of_fields, on_top}
use Rattle.clap.specs.Words.{Shape, Text, app_of, new_app}
use Rattle.clap.specs.declared.builder.command.Command.{Command}
use Rattle.command_line.specs.CommandLine.{IsKindNames, IsModeNames, planner_app, versioned_app, with_search_apps, with_solution_apps}
use Rattle.command_line.proofs.commands.planner_command.Goals as goal

pub returns : goal.returns
returns c =
    let names : Bor (List (Bor Text)) = c.kind_names-kinds.result in
    let kinds : IsKindNames names = c.kind_names-kinds.ensures in
    let modes : Bor (List (Bor Text)) = c.mode_names.result in
    let named : IsModeNames modes = c.mode_names.ensures in
    let new_is : app_of c.about.result ≡ new_app (codes "planner") = ap app_of_fields c.about.ensures ∙ c.new.ensures.app in
    let none_is : app_of c.after_help-planner.result ≡ versioned_app (codes "planner") =
    ap app_of_fields c.after_help-planner.ensures ∙ (ap app_of_fields c.version.ensures ∙ ap (on_top (λ (s : Shape). record s { has_version = true })) new_is) in
    let taking = with_solution_apps names (versioned_app (codes "planner")) in
    let one = c.add_solution_commands-planner.ensures (versioned_app (codes "planner")) none_is in
    let two = c.add_search_commands-planner.ensures taking one in
    IfOk-weaker c.add_store_commands.result _ _ (λ (command : Command) (is : app_of command ≡ planner_app names modes). record
    { names = names; kinds = kinds; mode_names = modes; modes = named; app = is })
    (c.add_store_commands.ensures (with_search_apps names taking) two)

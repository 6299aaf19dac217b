-- The program's command, as `clap` parses it.
use Rattle.std.specs.Prelude.{◌≡◌, List, [], ◌∷◌, codes, Some, true, false, map}
use Rattle.std.specs.Borrow.{Bor}
use Rattle.clap.specs.Words.{App, Rule, Text, app_of, new_app, new_rule, rule_of, with_rule, with_subcommand}
use Rattle.clap.specs.Simple.{on_top}
use Rattle.clap.specs.declared.builder.Arg.{Arg}
use Rattle.clap.specs.declared.builder.Command.{Command}
use Rattle.clap.specs.declared.builder.Command.TheViews.{out-Command}
use Rattle.clap.specs.declared.builder.value_parser.ValueParser.TheVariants.{Names}

-- A required argument.
abbrev pub required_rule : Text → Rule
required_rule id = record (new_rule id) { required = true }

abbrev pub kind_rule : Bor (List (Bor Text)) → Rule
kind_rule names = record (required_rule (codes "KIND")) { parser = Some (Names names) }

-- A command with this name whose first argument is KIND, one of the names.
abbrev pub kind_app : Text → Bor (List (Bor Text)) → App
kind_app name names = with_rule (new_app name) (kind_rule names)

-- `KIND INSTANCE SOLUTION [routes]`.
abbrev pub paths_app : Text → Bor (List (Bor Text)) → App
paths_app name names =
    let solution = with_rule (with_rule (kind_app name names) (required_rule (codes "INSTANCE"))) (required_rule (codes "SOLUTION")) in
    with_rule solution (new_rule (codes "routes"))

-- `audits KIND LIST [routes]`.
abbrev pub audits_app : Bor (List (Bor Text)) → App
audits_app names = with_rule (with_rule (kind_app (codes "audits") names) (required_rule (codes "LIST"))) (new_rule (codes "routes"))

-- `solve KIND INSTANCE STEPS [SEED [DEVIATION]]`.
abbrev pub solve_app : Bor (List (Bor Text)) → App
solve_app names =
    let steps = with_rule (with_rule (kind_app (codes "solve") names) (required_rule (codes "INSTANCE"))) (required_rule (codes "STEPS")) in
    with_rule (with_rule steps (new_rule (codes "SEED"))) (new_rule (codes "DEVIATION"))

-- `solves KIND LIST STEPS [SEED]`.
abbrev pub solves_app : Bor (List (Bor Text)) → App
solves_app names =
    let steps = with_rule (with_rule (kind_app (codes "solves") names) (required_rule (codes "LIST"))) (required_rule (codes "STEPS")) in
    with_rule steps (new_rule (codes "SEED"))

-- A command with this name and the argument `STORE`.
abbrev pub store_app : Text → App
store_app name = with_rule (new_app name) (required_rule (codes "STORE"))

-- An optional argument that is one of the names.
abbrev pub mode_rule : Bor (List (Bor Text)) → Rule
mode_rule modes = record (new_rule (codes "strict")) { parser = Some (Names modes) }

-- `run STORE [strict]`.
abbrev pub run_app : Bor (List (Bor Text)) → App
run_app modes = with_rule (with_rule (new_app (codes "run")) (required_rule (codes "STORE"))) (mode_rule modes)

-- `load STORE KIND INSTANCE [SEED]`.
abbrev pub load_app : Bor (List (Bor Text)) → App
load_app names =
    with_rule (with_rule (with_rule (with_rule (new_app (codes "load")) (required_rule (codes "STORE"))) (kind_rule names)) (required_rule (codes "INSTANCE"))) (new_rule (codes "SEED"))

-- `adopt STORE SOLUTION`.
abbrev pub adopt_app : App
adopt_app = with_rule (with_rule (new_app (codes "adopt")) (required_rule (codes "STORE"))) (required_rule (codes "SOLUTION"))

-- `upgrade OLD NEW`.
abbrev pub upgrade_app : App
upgrade_app = with_rule (with_rule (new_app (codes "upgrade")) (required_rule (codes "OLD"))) (required_rule (codes "NEW"))

-- A command with the arguments that name a store or a solution: `STORE|KIND`, the given second one, `SOLUTION`,
-- and the given last one.
abbrev pub with_plan_rules : App → Rule → Rule → App
with_plan_rules a second last = with_rule (with_rule (with_rule (with_rule a (required_rule (codes "STORE|KIND"))) second) (new_rule (codes "SOLUTION"))) last

-- `timetable STORE [tabs]` or `timetable KIND INSTANCE SOLUTION [tabs]`.
abbrev pub timetable_app : App
timetable_app = with_plan_rules (new_app (codes "timetable")) (new_rule (codes "tabs|INSTANCE")) (new_rule (codes "tabs"))

-- `draw STORE [ROUTE]` or `draw KIND INSTANCE SOLUTION [ROUTE]`.
abbrev pub draw_app : App
draw_app = with_plan_rules (new_app (codes "draw")) (new_rule (codes "ROUTE|INSTANCE")) (new_rule (codes "ROUTE"))

-- A command with a version.
abbrev pub versioned_app : Text → App
versioned_app name = on_top (λ s. record s { has_version = true }) (new_app name)

-- A command with the subcommands that take a solution.
abbrev pub with_solution_apps : Bor (List (Bor Text)) → App → App
with_solution_apps names above =
    let audit = with_subcommand above (paths_app (codes "audit") names).top in
    let audits = with_subcommand audit (audits_app names).top in
    let explain = with_subcommand audits (paths_app (codes "explain") names).top in
    with_subcommand (with_subcommand explain timetable_app.top) draw_app.top

-- A command with the subcommands that make a solution.
abbrev pub with_search_apps : Bor (List (Bor Text)) → App → App
with_search_apps names above = with_subcommand (with_subcommand above (solve_app names).top) (solves_app names).top

-- A command with the subcommands that make, change or read a store.
abbrev pub with_store_apps : Bor (List (Bor Text)) → Bor (List (Bor Text)) → App → App
with_store_apps names modes above =
    let load = with_subcommand (with_subcommand above (store_app (codes "format")).top) (load_app names).top in
    let adopt = with_subcommand (with_subcommand load (run_app modes).top) adopt_app.top in
    let instance = with_subcommand adopt (store_app (codes "instance")).top in
    with_subcommand (with_subcommand instance (store_app (codes "check")).top) upgrade_app.top

-- The program's command, with one level of subcommands.
abbrev pub planner_app : Bor (List (Bor Text)) → Bor (List (Bor Text)) → App
planner_app names modes =
    with_store_apps names modes (with_search_apps names (with_solution_apps names (versioned_app (codes "planner"))))

-- The kinds of instance: a format, and perhaps its scale after a colon.
abbrev pub kind_words : List Text
kind_words =
    codes "lilim" ∷ codes "lilim:1" ∷ codes "lilim:10" ∷ codes "lilim:100" ∷ codes "lilim:1000"
    ∷ codes "solomon" ∷ codes "solomon:1" ∷ codes "solomon:10" ∷ codes "solomon:100" ∷ codes "solomon:1000"
    ∷ codes "vrp" ∷ codes "vrp:1" ∷ codes "vrp:10" ∷ codes "vrp:100" ∷ codes "vrp:1000"
    ∷ []

abbrev pub IsKindNames : Bor (List (Bor Text)) → Type 0
IsKindNames names = map (λ name. name.now) names.now ≡ kind_words

abbrev pub mode_words : List Text
mode_words = codes "strict" ∷ []

abbrev pub IsModeNames : Bor (List (Bor Text)) → Type 0
IsModeNames modes = map (λ name. name.now) modes.now ≡ mode_words

-- The argument has this rule, and belongs to this command only.
pub record IsArg (r : Rule) (arg : Arg) : Type 0 where
  pub rule : rule_of arg ≡ r
  pub local : arg.global ≡ false

-- The command has this definition and no subcommands.
pub record IsLeafCommand (a : App) (command : Command) : Type 0 where
  pub app : app_of command ≡ a
  pub local : (out-Command command).has_globals ≡ false

pub record IsPlannerCommand (command : Command) : Type 0 where
  pub names : Bor (List (Bor Text))
  pub kinds : IsKindNames names
  pub mode_names : Bor (List (Bor Text))
  pub modes : IsModeNames mode_names
  pub app : app_of command ≡ planner_app names mode_names

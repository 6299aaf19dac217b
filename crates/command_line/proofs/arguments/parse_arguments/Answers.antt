-- The contract of the parser for its errors and its matches, if no argument begins with a hyphen.
use Rattle.std.proofs.Common.{drop, map, List}
use Rattle.clap.specs.Words.{Text}
use Rattle.command_line.proofs.CommandLemmas.{is_simple_command, judged, parsed, passed_up, read_of, refused}
use Rattle.command_line.proofs.arguments.parse_arguments.Goals as goal

pub returns-in_err-matches : goal.returns-in_err-matches
returns-in_err-matches g c = λ p.
    let texts : List Text = map g.S.AsStr.text c.args.words.now in
    let command = c.in_ok-planner_command.field-0 in
    let planner = c.in_ok-planner_command.ensures in
    passed_up (drop 1 texts) c.from_residual-in_err-matches.result c.in_err-matches.field-0.0 c.from_residual-in_err-matches.ensures.1
    (refused (drop 1 texts) _ _ c.in_err-matches.field-0.0 (judged command texts planner p) (c.in_err-matches.ensures.kinds (is_simple_command command planner)))

pub returns : goal.returns
returns g c = λ p.
    let texts : List Text = map g.S.AsStr.text c.args.words.now in
    let planner = c.in_ok-planner_command in
    let read = c.in_ok-matches in
    read_of (drop 1 texts) _ _ (parsed planner.field-0 texts read.matches planner.ensures p read.ensures.kinds read.ensures.matches) c.invocation_or_error.ensures

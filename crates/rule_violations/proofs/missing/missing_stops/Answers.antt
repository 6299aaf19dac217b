-- If the stop with this number is in no route, it is appended.
use Rattle.std.proofs.Common.{◌∙◌, ◌++◌, ap}
use Rattle.rule_violations.specs.Violations.{missing_from}
use Rattle.rule_violations.proofs.StepLemmas.{next_number}
use Rattle.rule_violations.proofs.missing.missing_stops.Goals as goal

pub loop-stop-preserved : goal.loop-stop-preserved
loop-stop-preserved c =
    let k = c.loop-stop.stop in
    c.in_ok-add_stop_if_missing.ensures
    ∙ ap (λ xs. xs ++ missing_from c.args.problem.now c.args.routes.now k) c.loop-stop.invariant
    ∙ next_number (missing_from c.args.problem.now c.args.routes.now) k

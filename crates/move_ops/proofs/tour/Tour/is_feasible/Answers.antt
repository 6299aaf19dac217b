-- A route is feasible alone exactly when it keeps its limits and its pairs are whole, each pickup first.
use Rattle.std.proofs.Common.{rules, ◌≡◌, ◌∙◌, false}
use Rattle.move_ops.proofs.FitLemmas.{within_limits, outside_limits}
use Rattle.move_ops.proofs.tour.Tour.is_feasible.Goals as goal

pub returns-then-keeps_limits : goal.returns-then-keeps_limits
returns-then-keeps_limits c =
    within_limits c.args.problem.now c.args.route.now c.are_paired.result c.keeps_limits.result c.are_paired.ensures (search rules) c.keeps_limits.ensures

pub returns-else-keeps_limits : goal.returns-else-keeps_limits
returns-else-keeps_limits c =
    let broken : c.keeps_limits.result ≡ false = search rules in
    broken ∙ outside_limits c.args.problem.now c.problem_keeps_limits.ensures c.args.route.now c.keeps_limits.result broken c.keeps_limits.ensures

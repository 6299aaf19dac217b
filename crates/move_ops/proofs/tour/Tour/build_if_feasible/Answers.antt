-- A route whose pairs are whole is feasible alone exactly when it keeps its limits.
use Rattle.std.proofs.Common.{rules, ◌∙◌, sym}
use Rattle.move_ops.proofs.FitLemmas.{paired}
use Rattle.move_ops.proofs.tour.Tour.build_if_feasible.Goals as goal

pub returns-then-not-keeps_limits : goal.returns-then-not-keeps_limits
returns-then-not-keeps_limits c =
    sym (paired c.args.problem.now c.problem_keeps_limits.ensures c.args.route.now c.keeps_limits.result c.requires.pairs c.keeps_limits.ensures)
    ∙ (search rules)

pub returns : goal.returns
returns c = (
  sym
      (paired c.args.problem.now c.problem_keeps_limits.ensures c.args.route.now c.keeps_limits.result c.requires.pairs c.keeps_limits.ensures)
      ∙ (search rules),
  c.in_ok-build.ensures.course,
  c.in_ok-build.ensures.route,
)

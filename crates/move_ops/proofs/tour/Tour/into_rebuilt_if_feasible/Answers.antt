-- A route whose pairs are whole is feasible alone exactly when a table is rebuilt for it, and this is the
-- route's table.
use Rattle.std.proofs.Common.{rules, ◌≡◌, Option, Some, None, subst}
use Rattle.slack_tables.specs.Course.{Course}
use Rattle.move_ops.specs.Changes.{IsTourIfFeasible}
use Rattle.move_ops.proofs.TourLemmas.{tour_if_feasible}
use Rattle.move_ops.proofs.tour.Tour.into_rebuilt_if_feasible.Goals as goal

pub returns-in_default : goal.returns-in_default
returns-in_default c =
    let p = c.args.problem.now in
    let reported = c.in_ok-table.ensures in
    let none : c.in_ok-table.field-0 ≡ None = search rules in
    subst (λ (o : Option Course). IsTourIfFeasible p c.args.route.now o) none
    (tour_if_feasible p c.problem_keeps_limits.ensures c.args.route.now c.requires.pairs c.in_ok-table.field-0 reported.kept reported.course reported.route)

pub returns : goal.returns
returns c =
    let p = c.args.problem.now in
    let reported = c.in_ok-table.ensures in
    let some : c.in_ok-table.field-0 ≡ Some c.in-Some.table = search rules in
    subst (λ (o : Option Course). IsTourIfFeasible p c.args.route.now o) some
    (tour_if_feasible p c.problem_keeps_limits.ensures c.args.route.now c.requires.pairs c.in_ok-table.field-0 reported.kept reported.course reported.route)

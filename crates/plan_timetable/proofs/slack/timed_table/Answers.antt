-- A used route that is feasible alone keeps the limits that `RouteTable::build` requires.
use Rattle.std.proofs.lemmas.Result.{IfOk-weaker}
use Rattle.plan_timetable.specs.Timed.{IsTimed}
use Rattle.plan_timetable.proofs.RouteLemmas.{kept_limits}
use Rattle.plan_timetable.proofs.slack.timed_table.Goals as goal

pub build-requires-clause-limits : goal.build-requires-clause-limits
build-requires-clause-limits c = kept_limits c.args.problem.now c.args.route.now c.requires.used c.requires.feasible

pub returns : goal.returns
returns c =
    let limits = kept_limits c.args.problem.now c.args.route.now c.requires.used c.requires.feasible in
    IfOk-weaker c.build.result _ (IsTimed c.args.problem.now c.args.route.now)
    (λ table is. record { kind = c.requires.kind; feasible = c.requires.feasible; limits = limits; course = is }) c.build.ensures.course

-- The verdict on the routes is the one on a solution that prints their true distance.
use Rattle.route_sched.specs.Cost.{total_length}
use Rattle.auditor_cli.proofs.explain.rests_on_cost.Goals as goal

pub explain_distance-requires : goal.explain_distance-requires
explain_distance-requires c =
    let problem = c.args.problem.now in
    let routes = c.args.routes.now in
    (total_length problem routes, (c.routes_are_judged_by_true_cost.ensures problem routes c.in_ok-verdict.verdict).0 c.in_ok-verdict.ensures)

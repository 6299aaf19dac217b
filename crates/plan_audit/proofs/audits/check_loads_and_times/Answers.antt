-- Each route of a plan has distinct current stops, as the rules on loads and times require.
use Rattle.route_sched.proofs.Concats.{routes_of_plan}
use Rattle.plan_audit.proofs.audits.check_loads_and_times.Goals as goal

pub cost_within_limits-requires-clause-live : goal.cost_within_limits-requires-clause-live
cost_within_limits-requires-clause-live c = routes_of_plan c.args.scan.now.problem.now c.args.scan.now.routes.now c.requires

pub first_broken_limit-requires : goal.first_broken_limit-requires
first_broken_limit-requires c = routes_of_plan c.args.scan.now.problem.now c.args.scan.now.routes.now c.requires

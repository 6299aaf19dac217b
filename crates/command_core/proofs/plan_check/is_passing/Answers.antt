-- If the stops of all routes are current and distinct, so are those of each route
use Rattle.std.proofs.Common.{sym, ◌∙◌}
use Rattle.command_core.proofs.PlanCheckLemmas.{each_known_once}
use Rattle.command_core.proofs.plan_check.is_passing.Goals as goal

pub are_feasible-requires : goal.are_feasible-requires
are_feasible-requires c = each_known_once c.plans_are_disjoint_routes.ensures c.args.problem.now c.args.routes.now (sym c.are_distinct_stops.ensures ∙ c.if-not-are_distinct_stops.false)

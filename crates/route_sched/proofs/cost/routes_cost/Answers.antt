-- The routes of a plan share no stop. So they have few enough stops for the total distance to fit a `u64`.
use Rattle.std.proofs.Common.{subst, arith}
use Rattle.std.specs.List.{concat}
use Rattle.plan_types.specs.Instance.{IsInstance}
use Rattle.route_sched.proofs.Concats.{routes_of_plan}
use Rattle.route_sched.proofs.KnownStops.{few_stops}
use Rattle.route_sched.proofs.cost.routes_cost.Goals as goal

pub total_distance-requires : goal.total_distance-requires
total_distance-requires c = routes_of_plan c.args.problem.now c.args.routes.now c.requires.plan

pub overflow_cast-result : goal.overflow_cast-result
overflow_cast-result c =
    let valid : IsInstance c.args.problem.now = subst (λ q. IsInstance q) c.problem.view_is c.problem.invariant.valid in
    omega (arith, c.total_distance.ensures.bound, few_stops c.args.problem.now (concat c.args.routes.now) valid c.requires.plan)

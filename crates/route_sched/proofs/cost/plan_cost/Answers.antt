-- The stops of a plan belong to current requests, so their numbers are at most 40,000.
use Rattle.std.proofs.Common.{subst}
use Rattle.plan_types.specs.Instance.{IsInstance}
use Rattle.std.specs.List.{concat}
use Rattle.route_sched.proofs.KnownStops.{live_numbers}
use Rattle.route_sched.proofs.cost.plan_cost.Goals as goal

pub returns-clause-numbers : goal.returns-clause-numbers
returns-clause-numbers c =
    let valid : IsInstance c.args.problem.now = subst (λ q. IsInstance q) c.problem.view_is c.problem.invariant.valid in
    live_numbers c.args.problem.now (concat c.args.plan.now.routes) valid c.requires

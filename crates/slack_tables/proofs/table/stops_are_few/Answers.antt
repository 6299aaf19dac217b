-- A list of distinct current stops of a valid problem has at most 40,001 of them.
use Rattle.std.proofs.Common.{subst}
use Rattle.plan_types.specs.Instance.{IsInstance}
use Rattle.route_sched.proofs.KnownStops.{few_stops}
use Rattle.slack_tables.proofs.table.stops_are_few.Goals as goal

pub returns : goal.returns
returns c =
    let valid : IsInstance c.args.problem.now = subst (λ q. IsInstance q) c.problem.view_is c.problem.invariant.valid in
    few_stops c.args.problem.now c.args.route.now valid c.requires

-- The depot, the capacity and the fleet of a draft keep their limits.
use Rattle.instance_read.proofs.CustomerLemmas.{capacity_valid, depot_valid, fleet_valid}
use Rattle.instance_read.proofs.vrp_problem.problem_without_customers.Goals as goal

pub unreachable-requires : goal.unreachable-requires
unreachable-requires c =
    let draft = c.args.draft.now in
    let valid = c.requires.draft in
    c.in-Err.ensures.err.1 (
      depot_valid draft valid c.node_stop-depot.result c.node_stop-depot.ensures,
      capacity_valid draft valid c.unwrap_or-capacity.result c.unwrap_or-capacity.ensures,
      fleet_valid draft valid c.requires.announced c.node_count.result c.node_count.ensures,
    )

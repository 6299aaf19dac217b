-- If no steps are left, annealing keeps the search state
use Rattle.std.proofs.Common.{◌-◌, arith}
use Rattle.seeded_search.specs.SearchStates.{search_plans_of}
use Rattle.command_core.proofs.ReduceLemmas.{no_steps}
use Rattle.command_core.proofs.reduce.anneal_to.Goals as goal

pub returns-then-step-end-clause-search_plans : goal.returns-then-step-end-clause-search_plans
returns-then-step-end-clause-search_plans c =
    let j = c.args.job.now in
    no_steps j.problem j.pins j.deviation j.seed c.args.step (c.args.end - c.args.step) (search_plans_of c.args.search_state) (omega (arith, c.if-step-end.true))

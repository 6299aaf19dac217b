-- An accepted command keeps the invariants of states, by the laws of the crates below. So does a list of
-- accepted commands
use Rattle.command_core.proofs.InvariantLemmas.{commands_keep_invariants}
use Rattle.command_core.proofs.RunLemmas.{runs_keep_facts}
use Rattle.command_core.proofs.laws.commands_keep_invariants.Goals as goal

pub returns-clause-one : goal.returns-clause-one
returns-clause-one c = commands_keep_invariants (record {
  feasibility = c.feasibility_is_local.ensures;
  local = c.passing_is_local.ensures;
  plans = c.plans_are_disjoint_routes.ensures;
  pins = c.pins_are_distinct_stops.ensures;
  fresh = c.numbers_are_below_next_number.ensures.fresh;
  below = c.numbers_are_below_next_number.ensures.stops;
  put = c.put_adds_one_request.ensures.problem;
  put_others = c.put_adds_one_request.ensures.others;
  take = c.take_removes_one_request.ensures.problem;
  take_others = c.take_removes_one_request.ensures.others;
  named = c.requests_are_stored_by_name.ensures;
  steps = c.steps_keep_passing.ensures;
  anneal_steps = c.anneal_steps_keep_passing.ensures;
  tries = c.attempts_keep_plans.ensures;
})

pub returns-clause-many : goal.returns-clause-many
returns-clause-many c = runs_keep_facts (returns-clause-one c)

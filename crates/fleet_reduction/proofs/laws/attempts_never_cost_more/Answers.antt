-- The plan that the attempts find never costs more than the plan that they begin with.
use Rattle.fleet_reduction.proofs.AttemptLemmas.{attempts_never_cost_more}
use Rattle.fleet_reduction.proofs.laws.attempts_never_cost_more.Goals as goal

pub returns : goal.returns
returns c = attempts_never_cost_more c.costs_are_totally_ordered.ensures.total c.costs_are_totally_ordered.ensures.transitive

-- An accepted command that changes no request never makes the plan more expensive
use Rattle.command_core.proofs.RunLemmas.{costs_never_rise}
use Rattle.command_core.proofs.laws.costs_never_rise.Goals as goal

pub returns : goal.returns
returns c = costs_never_rise c.costs_are_totally_ordered.ensures.total c.costs_are_totally_ordered.ensures.transitive c.costs_are_totally_ordered.ensures.below_is_at_most
    c.incumbents_never_cost_more.ensures c.annealing_never_costs_more.ensures c.attempts_never_cost_more.ensures

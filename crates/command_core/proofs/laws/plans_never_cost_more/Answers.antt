-- The plan costs no more than at any moment since the last change of requests or pins
use Rattle.command_core.proofs.RunLemmas.{plans_never_cost_more}
use Rattle.command_core.proofs.laws.plans_never_cost_more.Goals as goal

pub returns : goal.returns
returns c = plans_never_cost_more c.costs_are_totally_ordered.ensures.total c.costs_are_totally_ordered.ensures.transitive c.costs_are_totally_ordered.ensures.below_is_at_most
    c.incumbents_never_cost_more.ensures c.annealing_never_costs_more.ensures c.attempts_never_cost_more.ensures

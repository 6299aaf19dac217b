-- A removed request can be inserted where it was. So it has a best insertion, with which the plan costs no more
-- than before.
use Rattle.move_ops.proofs.ReinsertionLemmas.{relocations_never_cost_more}
use Rattle.move_ops.proofs.laws.relocations_never_cost_more.Goals as goal

pub returns : goal.returns
returns c =
    relocations_never_cost_more c.requests_are_found_by_stop.ensures c.requests_are_stored_by_name.ensures c.passing_is_local.ensures
    c.a_passing_plan_is_sound.ensures c.passes_decides_the_verdict.ensures c.best_insertions_are_least.ensures
    c.costs_are_totally_ordered.ensures.below_is_at_most

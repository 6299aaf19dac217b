-- A request removed from a plan that passes can be inserted where it was, which restores the old plan.
use Rattle.move_ops.proofs.ReinsertionLemmas.{requests_keep_their_places}
use Rattle.move_ops.proofs.laws.requests_keep_their_places.Goals as goal

pub returns : goal.returns
returns c =
    requests_keep_their_places c.requests_are_found_by_stop.ensures c.requests_are_stored_by_name.ensures c.passing_is_local.ensures
    c.a_passing_plan_is_sound.ensures c.passes_decides_the_verdict.ensures

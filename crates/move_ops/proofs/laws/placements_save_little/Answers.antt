-- A detour to one stop saves at most a distance of 1, so an inserted request saves at most 1 for each of its
-- stops.
use Rattle.move_ops.proofs.SavingLemmas.{placements_save_little}
use Rattle.move_ops.proofs.laws.placements_save_little.Goals as goal

pub returns : goal.returns
returns c =
    placements_save_little c.requests_are_found_by_stop.ensures c.requests_are_stored_by_name.ensures c.passing_is_local.ensures
    c.feasible_alone_decides_feasibility.ensures c.numbers_are_below_next_number.ensures.stops c.detours_save_at_most_one.ensures

-- A printed solution passes exactly if it is sound, plans every request, uses no more vehicles than there are,
-- and prints its distance.
use Rattle.plan_audit.proofs.LawProofs.{solutions_pass_where_sound}
use Rattle.plan_audit.proofs.laws.solutions_pass_iff_sound.Goals as goal

pub returns : goal.returns
returns c = solutions_pass_where_sound c.requests_are_stored_by_name.ensures c.requests_are_found_by_stop.ensures

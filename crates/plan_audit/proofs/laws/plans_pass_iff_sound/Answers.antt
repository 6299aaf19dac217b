-- A plan passes exactly if it is sound, has a route for each vehicle, and keeps its pins.
use Rattle.plan_audit.proofs.LawProofs.{plans_pass_where_sound}
use Rattle.plan_audit.proofs.laws.plans_pass_iff_sound.Goals as goal

pub returns : goal.returns
returns c = plans_pass_where_sound c.requests_are_stored_by_name.ensures c.requests_are_found_by_stop.ensures

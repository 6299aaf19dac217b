-- A passing plan or solution is sound: each planned request is served once, by one vehicle and in order, and
-- loads and times keep their limits.
use Rattle.plan_audit.proofs.LawProofs.{passes_are_sound}
use Rattle.plan_audit.proofs.laws.a_passing_plan_is_sound.Goals as goal

pub returns : goal.returns
returns c = passes_are_sound c.requests_are_found_by_stop.ensures

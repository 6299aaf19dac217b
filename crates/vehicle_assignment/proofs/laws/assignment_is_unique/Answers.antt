-- A text has exactly one plan, or exactly one reason why there is none.
use Rattle.vehicle_assignment.proofs.LawProofs.{seatings_agree, some_seating}
use Rattle.vehicle_assignment.proofs.laws.assignment_is_unique.Goals as goal

pub returns-clause-some : goal.returns-clause-some
returns-clause-some c = some_seating c.each_plan_has_a_verdict.ensures.verdicts

pub returns-clause-one : goal.returns-clause-one
returns-clause-one c = seatings_agree c.verdicts_are_unique.ensures

-- Each stop of the problem has its mark, because each stop number is below `next_number`.
use Rattle.plan_picture.proofs.LawProofs.{stops_are_marked}
use Rattle.plan_picture.proofs.laws.stops_are_marked.Goals as goal

pub returns : goal.returns
returns c = stops_are_marked c.numbers_are_below_next_number.ensures.stops

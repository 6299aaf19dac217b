-- Every image holds a state or has a fault.
use Rattle.checkpoint.proofs.Decidability.{decided}
use Rattle.checkpoint.proofs.laws.images_hold_a_state_or_have_a_fault.Goals as goal

pub returns : goal.returns
returns c = decided c.bytes_have_one_answer.ensures.decided c.bytes_have_one_answer.ensures.records

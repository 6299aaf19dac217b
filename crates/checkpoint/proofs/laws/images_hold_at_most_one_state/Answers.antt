-- An image holds at most one state, has no fault if it does, and has at most one fault.
use Rattle.checkpoint.proofs.UniqueStates.{one, beside_nothing, one_fault}
use Rattle.checkpoint.proofs.laws.images_hold_at_most_one_state.Goals as goal

pub returns-clause-one : goal.returns-clause-one
returns-clause-one c = one c.encodings_are_injective.ensures.states c.encodings_are_injective.ensures.records

pub returns-clause-never_both : goal.returns-clause-never_both
returns-clause-never_both c = beside_nothing c.bytes_have_one_answer.ensures.states c.encodings_are_injective.ensures.states c.encodings_are_injective.ensures.records

pub returns-clause-one_fault : goal.returns-clause-one_fault
returns-clause-one_fault c = one_fault c.bytes_have_one_answer.ensures.states c.bytes_have_one_answer.ensures.faults

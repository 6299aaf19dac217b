-- Bytes are those of a state and have no fault, or have exactly one fault; a sector is the record of one
-- command or of none
use Rattle.state_codec.proofs.DecodeLaws.{decided}
use Rattle.state_codec.proofs.ChoiceLemmas.{records_decided}
use Rattle.state_codec.proofs.DecodeLemmas.{no_fault, one_fault}
use Rattle.state_codec.proofs.laws.bytes_have_one_answer.Goals as goal

pub returns-clause-states : goal.returns-clause-states
returns-clause-states c = no_fault c.verdicts_are_unique.ensures c.passes_decides_the_verdict.ensures c.feasible_alone_decides_feasibility.ensures c.numbers_are_below_next_number.ensures.stops

pub returns-clause-faults : goal.returns-clause-faults
returns-clause-faults c = one_fault c.verdicts_are_unique.ensures c.passes_decides_the_verdict.ensures c.feasible_alone_decides_feasibility.ensures

pub returns-clause-records : goal.returns-clause-records
returns-clause-records c = records_decided

pub returns-clause-decided : goal.returns-clause-decided
returns-clause-decided c = decided c.each_plan_has_a_verdict.ensures.verdicts c.each_plan_has_a_verdict.ensures.routes c.passes_decides_the_verdict.ensures
    c.feasible_alone_decides_feasibility.ensures c.pins_are_distinct_stops.ensures c.put_adds_one_request.ensures.problem

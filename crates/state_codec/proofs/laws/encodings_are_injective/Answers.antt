-- States with the same bytes are equal. Records with the same bytes have the same sequence, index and command
use Rattle.state_codec.proofs.DecodeLemmas.{states_differ}
use Rattle.state_codec.proofs.RecordLaws.{records_differ}
use Rattle.state_codec.proofs.laws.encodings_are_injective.Goals as goal

pub returns-clause-states : goal.returns-clause-states
returns-clause-states c = states_differ c.numbers_are_below_next_number.ensures.stops

pub returns-clause-records : goal.returns-clause-records
returns-clause-records c = records_differ

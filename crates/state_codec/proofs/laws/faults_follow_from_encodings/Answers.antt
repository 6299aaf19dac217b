-- A bad field stays one, a byte after an encoding is a bad field, and a proper prefix of an encoding is
-- truncated
use Rattle.state_codec.proofs.DecodeLemmas.{bad_stays, extra_byte_is_bad, prefixes_are_truncated}
use Rattle.state_codec.proofs.laws.faults_follow_from_encodings.Goals as goal

pub returns-clause-stay : goal.returns-clause-stay
returns-clause-stay c = bad_stays

pub returns-clause-following : goal.returns-clause-following
returns-clause-following c = extra_byte_is_bad c.numbers_are_below_next_number.ensures.stops

pub returns-clause-prefixes : goal.returns-clause-prefixes
returns-clause-prefixes c = prefixes_are_truncated c.numbers_are_below_next_number.ensures.stops

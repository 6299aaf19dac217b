-- The encoding of a state is never longer than the space of a snapshot
use Rattle.state_codec.proofs.LengthLemmas.{encodings_fit}
use Rattle.state_codec.proofs.laws.encodings_fit.Goals as goal

pub returns : goal.returns
returns c = encodings_fit c.numbers_are_below_next_number.ensures.stops

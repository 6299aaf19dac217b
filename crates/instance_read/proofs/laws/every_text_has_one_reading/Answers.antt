-- Each text spells a problem or has a first fault, and not both.
use Rattle.instance_read.proofs.ReadableLemmas.{texts_are_read, texts_are_read_one_way}
use Rattle.instance_read.proofs.laws.every_text_has_one_reading.Goals as goal

pub returns-clause-some : goal.returns-clause-some
returns-clause-some c = texts_are_read

pub returns-clause-one : goal.returns-clause-one
returns-clause-one c = texts_are_read_one_way

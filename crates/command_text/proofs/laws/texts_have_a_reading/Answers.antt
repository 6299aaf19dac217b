-- There is exactly one reading of all texts.
use Rattle.command_text.proofs.ReadingLemmas.{readings_agree, some_reading}
use Rattle.command_text.proofs.laws.texts_have_a_reading.Goals as goal

pub returns-clause-some : goal.returns-clause-some
returns-clause-some c = some_reading c.every_text_has_one_reading.ensures.some c.assignment_is_unique.ensures.some

pub returns-clause-one : goal.returns-clause-one
returns-clause-one c = readings_agree c.every_text_has_one_reading.ensures.one c.assignment_is_unique.ensures.one

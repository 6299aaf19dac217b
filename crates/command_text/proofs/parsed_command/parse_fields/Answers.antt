-- If a word after the name is not an integer, or if there are too many, the line is bad.
use Rattle.command_text.proofs.FieldLemmas.{no_command}
use Rattle.command_text.proofs.parsed_command.parse_fields.Goals as goal

pub returns-in-None : goal.returns-in-None
returns-in-None c = no_command c.args.verb c.args.words.now c.in-None.ensures

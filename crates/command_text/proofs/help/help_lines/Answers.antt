-- The text is that of the constant `HELP`.
use Rattle.command_text.specs.Answers.{help_text}
use Rattle.command_text.proofs.help.help_lines.Goals as goal

pub returns : goal.returns
unfolding help_text
returns c = c.as_bytes.ensures.value

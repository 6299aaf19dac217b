-- The state after the bytes of a line shows whether the words of the line announce a text.
use Rattle.std.proofs.Common.{◌∙◌, ap}
use Rattle.command_text.specs.Scanning.{is_announcement}
use Rattle.command_text.proofs.ScanLemmas.{says_first_word}
use Rattle.command_text.proofs.first_word.FirstWord.announces_text.Goals as goal

pub returns : goal.returns
returns c piece is = c.is_announcement.ensures ∙ ap is_announcement is ∙ says_first_word c.lines_split_into_words.ensures piece

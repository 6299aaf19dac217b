-- The words of a line are exactly those that make up the line together with blanks.
use Rattle.text_lines.proofs.LawProofs.{made_from_words, words_from_made}
use Rattle.text_lines.proofs.laws.lines_split_into_words.Goals as goal

pub returns : goal.returns
returns c line words = (made_from_words words line, words_from_made words line)

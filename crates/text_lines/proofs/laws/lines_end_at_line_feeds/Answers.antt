-- Each line ends at a line feed or at the end of the text, and an empty text has no lines.
use Rattle.text_lines.proofs.LawProofs.{end_at_feeds, end_with_text}
use Rattle.text_lines.proofs.PieceLemmas.{lines_nil}
use Rattle.text_lines.proofs.laws.lines_end_at_line_feeds.Goals as goal

pub returns : goal.returns
returns c = record { ended = end_at_feeds; last = end_with_text; none = lines_nil }

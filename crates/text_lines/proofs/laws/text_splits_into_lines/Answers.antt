-- The lines of a text are what its line feeds split it into.
use Rattle.text_lines.proofs.LawProofs.{cut_at_line_feeds}
use Rattle.text_lines.proofs.laws.text_splits_into_lines.Goals as goal

pub returns : goal.returns
returns c = cut_at_line_feeds

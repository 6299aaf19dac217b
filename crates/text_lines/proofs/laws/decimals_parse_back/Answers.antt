-- A number that is printed in decimal digits parses back to itself.
use Rattle.text_lines.proofs.LawProofs.{are_read}
use Rattle.text_lines.proofs.laws.decimals_parse_back.Goals as goal

pub returns : goal.returns
returns c = are_read

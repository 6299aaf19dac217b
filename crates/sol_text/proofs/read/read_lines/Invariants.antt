-- The routes so far, with the result of the remaining lines, are the result of all lines; and no line has a
-- number above the text's length.
use Rattle.std.proofs.Common.{◌≡◌, ◌+◌, ◌≤◌, length}
use Rattle.text_lines.specs.Lines.{lines_of}
use Rattle.sol_text.specs.Reading.{reading, with_routes}
use Rattle.sol_text.proofs.read.read_lines.Given as goal

abbrev pub invariant-loop-line : goal.invariant-loop-line
invariant-loop-line l = record {
  few : l.number + length l.line-iterator ≤ length l.text;
  said : reading l.skips_head 0 (lines_of l.text) ≡ with_routes l.routes.items (reading l.in_head l.number l.line-iterator);
}

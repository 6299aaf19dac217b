-- A new text begins with nothing appended.
use Rattle.std.proofs.Common.{[]}
use Rattle.text_buffer.proofs.TextBuffer.new.Given as goal

abbrev pub ghost-of : goal.ghost-of
ghost-of a = []

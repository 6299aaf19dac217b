-- The list of everything appended gets this number, whether there is memory for it or not.
use Rattle.std.proofs.Common.{◌++◌}
use Rattle.text_buffer.specs.Columns.{right_signed}
use Rattle.text_buffer.proofs.TextBuffer.push_right_aligned_signed.Given as goal

abbrev pub ghost-after : goal.ghost-after
ghost-after a = a.self.now.value ++ right_signed a._more.0 a._more.1

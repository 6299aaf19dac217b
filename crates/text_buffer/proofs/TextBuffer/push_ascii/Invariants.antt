-- The list of everything appended gets this byte, whether there is memory for it or not.
use Rattle.std.proofs.Common.{◌++◌, ◌∷◌, []}
use Rattle.text_buffer.proofs.TextBuffer.push_ascii.Given as goal

abbrev pub ghost-after : goal.ghost-after
ghost-after a = a.self.now.value ++ a._more ∷ []

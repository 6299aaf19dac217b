-- The bytes so far are a part of the text.
use Rattle.std.proofs.Common.{◌≤◌}
use Rattle.command_server.specs.Input.{Between, Counts, CountsExactly, IsTextPart}
use Rattle.command_server.proofs.input.Input.announced_text.Given as goal

abbrev pub invariant-loop-text : goal.invariant-loop-text
invariant-loop-text g l =
    Between g.R.Source l.fn.self l.fn.reader l.self l.reader (λ old now. IsTextPart l.len old now l.text)
    × Counts g.R.Source l.fn.self l.fn.reader l.self l.reader
    × (l.self.left ≤ l.fn.self.left)
    × CountsExactly g.R.Source l.fn.self l.fn.reader l.self l.reader

abbrev pub decreases-loop-text : goal.decreases-loop-text
decreases-loop-text g l = l.text.left

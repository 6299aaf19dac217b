-- The bytes that were taken belong to one line.
use Rattle.std.proofs.Common.{◌<◌, ◌≤◌, length}
use Rattle.command_server.specs.Input.{Between, Counts, CountsExactly, IsPartOf}
use Rattle.command_server.proofs.input.Input.read_command.Given as goal

abbrev pub invariant-loop-self : goal.invariant-loop-self
invariant-loop-self g l =
    Between g.R.Source l.fn.self l.fn.reader l.self l.reader (λ old now. IsPartOf old now l.self.line)
    × Counts g.R.Source l.fn.self l.fn.reader l.self l.reader
    × (l.self.left ≤ l.fn.self.left)
    × (0 < length l.self.line.kept.items → l.self.left < l.fn.self.left)
    × CountsExactly g.R.Source l.fn.self l.fn.reader l.self l.reader

abbrev pub decreases-loop-self : goal.decreases-loop-self
decreases-loop-self g l = l.self.left

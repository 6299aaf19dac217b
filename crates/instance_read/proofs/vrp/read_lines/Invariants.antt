-- The state of reading a `.vrp` text: the draft of the lines so far, and the section after them.
use Rattle.instance_read.proofs.ReadingLemmas.{IsReading}
use Rattle.instance_read.proofs.vrp.read_lines.Given as goal

-- the lines so far are read
abbrev pub invariant-loop-line : goal.invariant-loop-line
invariant-loop-line l = IsReading l.fn.scale l.fn.lines l.draft l.place l.line-iterator

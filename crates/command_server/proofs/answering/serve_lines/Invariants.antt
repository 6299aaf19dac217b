-- The commands so far were served.
use Rattle.std.proofs.Common.{◌≡◌, ℕ, List, Some}
use Rattle.command_text.specs.Cutting.{pieces_of}
use Rattle.command_text.specs.Readings.{IsReading, Reading}
use Rattle.command_server.specs.Input.{Between, Counts, CountsExactly, left_of}
use Rattle.command_server.specs.KnownInput.{Fits, InputKnowledge}
use Rattle.command_server.specs.ServeSteps.{ServesPieces, TakesKnownPieces}
use Rattle.command_server.specs.declared.answering.Flow.TheVariants.{Continue}
use Rattle.command_server.proofs.answering.serve_lines.Given as goal

abbrev pub invariant-loop-requested : goal.invariant-loop-requested
invariant-loop-requested g l =
    ((reading : Reading) (bytes : List ℕ) (how : InputKnowledge) → IsReading reading → Fits g.R.Source how l.reader → left_of g.R.Source how l.fn.input l.fn.reader ≡ Some bytes
    → ServesPieces g.D.Sectors reading l.fn.session (pieces_of bytes) (g.W.Sink.stream l.fn.writer) (g.W.Sink.stream l.writer) l.session Continue (left_of g.R.Source how l.input l.reader))
    × (g.W.Sink.origin l.writer ≡ g.W.Sink.origin l.fn.writer)
    × Counts g.R.Source l.fn.input l.fn.reader l.input l.reader
    × CountsExactly g.R.Source l.fn.input l.fn.reader l.input l.reader
    × Between g.R.Source l.fn.input l.fn.reader l.input l.reader TakesKnownPieces

abbrev pub decreases-loop-requested : goal.decreases-loop-requested
decreases-loop-requested g l = l.input.left

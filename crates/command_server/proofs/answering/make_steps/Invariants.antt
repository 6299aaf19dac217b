-- The rest of the reply is the reply to the steps that are left.
use Rattle.std.proofs.Common.{◌≡◌, length}
use Rattle.command_text.specs.Answering.{operations_reply, commands_of}
use Rattle.command_server.specs.ServeSteps.{Serves}
use Rattle.command_server.proofs.answering.make_steps.Given as goal

abbrev pub invariant-loop-command : goal.invariant-loop-command
invariant-loop-command g l =
    Serves g.D.Sectors l.fn.session (λ s. operations_reply s (commands_of l.fn.steps l.fn.session.state)) (g.W.Sink.stream l.fn.writer)
    (g.W.Sink.stream l.writer) l.session (λ s. operations_reply s (commands_of l.left l.session.state))
    × (g.W.Sink.origin l.writer ≡ g.W.Sink.origin l.fn.writer)

abbrev pub decreases-loop-command : goal.decreases-loop-command
decreases-loop-command g l = length (commands_of l.left l.session.state)

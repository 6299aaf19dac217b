-- One more text was written, and its lines were followed.
use Rattle.command_server.proofs.StreamLemmas.{follows_put}
use Rattle.command_server.proofs.strict.StrictWriterSink.put.Goals as goal

pub invariant_of-self-2 : goal.invariant_of-self-2
invariant_of-self-2 g c = λ whole.
    follows_put _ _ _ c.self.inside.last_lines (c.self.invariant (c.put.ensures.noted whole)) c.take_all.new.self _ c.args.text.now c.in_ok-put.ensures.puts c.take_all.ensures

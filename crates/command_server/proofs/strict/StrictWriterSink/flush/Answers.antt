-- After a line that reports no failure everything was flushed.
use Rattle.command_server.proofs.StreamLemmas.{follows_flushed}
use Rattle.command_server.proofs.strict.StrictWriterSink.flush.Goals as goal

pub invariant_of-self : goal.invariant_of-self
invariant_of-self g c = λ whole.
    follows_flushed _ _ _ c.self.inside.last_lines (c.self.invariant (c.flush.ensures.noted whole)) c.flush.result _ c.flush.new.self.has_failed
    c.flush.ensures.flushes c.flush.ensures.failed whole c.in-None.is

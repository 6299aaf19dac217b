-- The record has one more event.
use Rattle.std.proofs.Common.{◌++◌, ◌∷◌, []}
use Rattle.command_server.specs.Streams.{Flushed}
use Rattle.command_server.proofs.events.Events.with_flush.Given as goal

abbrev pub ghost-of_flush : goal.ghost-of_flush
ghost-of_flush g a = record { events = a.self.now.events ++ Flushed (g.D.Sectors.calls a._session.now.device) ∷ []; reads = a.self.now.reads }

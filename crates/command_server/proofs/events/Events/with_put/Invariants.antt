-- The record has one more event.
use Rattle.std.proofs.Common.{◌++◌, ◌∷◌, []}
use Rattle.command_server.specs.Streams.{Put}
use Rattle.command_server.proofs.events.Events.with_put.Given as goal

abbrev pub ghost-of_put : goal.ghost-of_put
ghost-of_put g a = record { events = a.self.now.events ++ Put (g.D.Sectors.calls a._session.now.device) a._text.now ∷ []; reads = a.self.now.reads }

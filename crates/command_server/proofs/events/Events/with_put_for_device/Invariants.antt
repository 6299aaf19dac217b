-- The record has one more event.
use Rattle.std.proofs.Common.{◌++◌, ◌∷◌, []}
use Rattle.command_server.specs.Streams.{Put}
use Rattle.command_server.proofs.events.Events.with_put_for_device.Given as goal

abbrev pub ghost-of_put_for_device : goal.ghost-of_put_for_device
ghost-of_put_for_device g a = record { events = a.self.now.events ++ Put (g.D.Sectors.calls a._device.now) a._text.now ∷ []; reads = a.self.now.reads }

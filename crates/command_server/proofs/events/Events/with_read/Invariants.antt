-- The record has the same events, and the result of one more read before those of earlier reads.
use Rattle.std.proofs.Common.{◌∷◌}
use Rattle.command_server.proofs.events.Events.with_read.Given as goal

abbrev pub ghost-of_read : goal.ghost-of_read
ghost-of_read a = record { events = a.self.now.events; reads = a._piece.now ∷ a.self.now.reads }

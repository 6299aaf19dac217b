-- The copy has the same events.
use Rattle.command_server.proofs.events.Events.copy.Given as goal

abbrev pub ghost-of_same : goal.ghost-of_same
ghost-of_same a = record { events = a.self.now.events; reads = a.self.now.reads }

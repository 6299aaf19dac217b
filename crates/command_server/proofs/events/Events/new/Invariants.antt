-- In a new record, nothing was read and nothing was written.
use Rattle.std.proofs.Common.{[]}
use Rattle.command_server.proofs.events.Events.new.Given as goal

abbrev pub ghost-of : goal.ghost-of
ghost-of a = record { events = []; reads = [] }

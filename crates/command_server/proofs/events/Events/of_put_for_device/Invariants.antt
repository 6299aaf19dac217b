-- The record has the required history.
use Rattle.command_server.proofs.events.Events.of_put_for_device.Given as goal

abbrev pub ghost-of : goal.ghost-of
ghost-of g a = g.history

-- The writer holds these bytes when the `StrictWriter` is made.
use Rattle.command_server.proofs.strict.StrictWriter.since.Given as goal

abbrev pub ghost-of : goal.ghost-of
ghost-of g a = g.bytes

-- A `StrictWriter` begins with the bytes that its writer holds.
use Rattle.command_server.proofs.strict.StrictWriter.new.Given as goal

abbrev pub ghost-since : goal.ghost-since
ghost-since g a = g.W.Write.contents a.writer.inner

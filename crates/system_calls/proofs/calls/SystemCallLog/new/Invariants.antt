-- A new record has no system call.
use Rattle.std.proofs.Common.{[]}
use Rattle.system_calls.proofs.calls.SystemCallLog.new.Given as goal

abbrev pub ghost-of : goal.ghost-of
ghost-of a = []

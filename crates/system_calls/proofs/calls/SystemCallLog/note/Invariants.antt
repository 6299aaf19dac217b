-- The record has this call as its newest one.
use Rattle.std.proofs.Common.{◌∷◌}
use Rattle.system_calls.proofs.calls.SystemCallLog.note.Given as goal

abbrev pub ghost-after : goal.ghost-after
ghost-after a = (a._more.0.now, a._more.1.now) ∷ a.self.now.value

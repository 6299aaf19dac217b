-- No vehicle so far gets a longer pin.
use Rattle.std.proofs.Common.{◌≡◌}
use Rattle.command_text.specs.Freezing.{freeze_commands}
use Rattle.command_text.proofs.freezing.next_freeze_command.Given as goal

abbrev pub invariant-loop-vehicle : goal.invariant-loop-vehicle
invariant-loop-vehicle l = freeze_commands l.time l.first l.job ≡ freeze_commands l.time l.vehicle l.job

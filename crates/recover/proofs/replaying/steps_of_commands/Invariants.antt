-- The steps so far are those of the commands so far, if their total fits.
use Rattle.std.proofs.Common.{◌≡◌, ◌<◌, ◌^◌, take}
use Rattle.std.specs.Prelude.{sum_by}
use Rattle.command_types.specs.Commands.{steps_of}
use Rattle.recover.proofs.replaying.steps_of_commands.Given as goal

abbrev pub invariant-loop-command : goal.invariant-loop-command
invariant-loop-command l = sum_by steps_of l.commands < 2 ^ 64 → l.steps ≡ sum_by steps_of (take l.command-index l.commands)

-- The remaining commands lead from the current state to the final one, and are accepted if all commands are.
use Rattle.std.proofs.Common.{◌≡◌, drop}
use Rattle.command_core.specs.Runs.{AreAccepted, after}
use Rattle.command_types.specs.States.{IsState}
use Rattle.recover.proofs.replaying.replay.Given as goal

abbrev pub invariant-loop-command : goal.invariant-loop-command
invariant-loop-command l =
    IsState l.planner
    × (after l.fn.snapshot l.commands ≡ after l.planner (drop l.command-index l.commands))
    × (AreAccepted l.fn.snapshot l.commands → AreAccepted l.planner (drop l.command-index l.commands))
    × (AreAccepted l.planner (drop l.command-index l.commands) → AreAccepted l.fn.snapshot l.commands)

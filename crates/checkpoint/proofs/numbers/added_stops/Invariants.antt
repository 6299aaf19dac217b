-- The stops counted so far and those of the remaining commands are all added stops. Each command adds at most
-- two.
use Rattle.std.proofs.Common.{◌≡◌, ◌≤◌, ◌*◌, ◌+◌, drop}
use Rattle.checkpoint.specs.Numbers.{added_stops}
use Rattle.checkpoint.proofs.numbers.added_stops.Given as goal

abbrev pub invariant-loop-command : goal.invariant-loop-command
invariant-loop-command l = record { sum : l.added + added_stops (drop l.command-index l.commands) ≡ added_stops l.commands; few : l.added ≤ 2 * l.command-index }

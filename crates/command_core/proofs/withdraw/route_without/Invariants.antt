-- The stops kept so far, followed by those kept of the remaining stops, make up the result
use Rattle.std.proofs.Common.{◌≡◌, ◌++◌, drop}
use Rattle.command_core.specs.Effects.{route_without}
use Rattle.command_core.proofs.withdraw.route_without.Given as goal

abbrev pub invariant-loop-stop : goal.invariant-loop-stop
invariant-loop-stop l = l.rest ++ route_without l.problem l.name (drop l.stop-index l.stops) ≡ route_without l.problem l.name l.stops

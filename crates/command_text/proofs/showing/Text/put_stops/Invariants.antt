-- The text so far, followed by that of the remaining stops, is the whole text.
use Rattle.std.proofs.Common.{◌≡◌, ◌++◌, drop}
use Rattle.sol_text.specs.Written.{customers_text}
use Rattle.command_text.proofs.showing.Text.put_stops.Given as goal

abbrev pub invariant-loop-stop : goal.invariant-loop-stop
invariant-loop-stop l = l.self ++ customers_text (drop l.stop-index l.stops) ≡ l.fn.self ++ customers_text l.stops

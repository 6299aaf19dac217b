-- The text so far, followed by that of the remaining stops, is the whole text.
use Rattle.std.proofs.Common.{◌≡◌, ◌++◌, drop}
use Rattle.std.specs.List.{flat_map}
use Rattle.plan_explain.specs.OtherViolations.{missing_stop_text}
use Rattle.plan_explain.proofs.other_violations.put_missing_stops.Given as goal

abbrev pub invariant-loop-stop : goal.invariant-loop-stop
invariant-loop-stop l = l.text ++ flat_map missing_stop_text (drop l.stop-index l.stops) ≡ l.fn.text ++ flat_map missing_stop_text l.stops

-- The stops so far are those with earlier numbers that are in no route.
use Rattle.std.proofs.Common.{◌≡◌}
use Rattle.std.specs.List.{flat_map, range_with_len}
use Rattle.rule_violations.specs.Violations.{missing_from}
use Rattle.rule_violations.proofs.missing.missing_stops.Given as goal

abbrev pub invariant-loop-stop : goal.invariant-loop-stop
invariant-loop-stop l = l.found.items ≡ flat_map (missing_from l.problem l.routes) (range_with_len 0 l.stop)

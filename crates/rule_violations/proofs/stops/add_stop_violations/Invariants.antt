-- The violations so far, followed by those of the remaining routes, are the old violations followed by those of
-- all routes.
use Rattle.std.proofs.Common.{◌≡◌, ◌++◌, drop}
use Rattle.rule_violations.specs.Violations.{stop_violations, stop_test, violations_from, violations_at_places}
use Rattle.rule_violations.proofs.stops.add_stop_violations.Given as goal

abbrev pub invariant-loop-number : goal.invariant-loop-number
invariant-loop-number l =
    l.found.items ++ violations_from (violations_at_places (stop_test l.problem l.routes l.rule)) l.number (drop l.number l.routes)
    ≡ l.fn.found.items ++ stop_violations l.problem l.routes l.rule

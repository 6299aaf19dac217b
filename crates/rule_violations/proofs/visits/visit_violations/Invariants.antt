-- The violations so far, followed by those of the remaining routes, are the violations of all routes.
use Rattle.std.proofs.Common.{◌≡◌, ◌++◌, drop}
use Rattle.rule_violations.specs.Violations.{violations_from, violations_at_places, visit_violations, visit_test}
use Rattle.rule_violations.proofs.visits.visit_violations.Given as goal

abbrev pub invariant-loop-number : goal.invariant-loop-number
invariant-loop-number l =
    l.found.items ++ violations_from (violations_at_places (visit_test l.problem l.rule)) l.number (drop l.number l.routes) ≡ visit_violations l.problem l.routes l.rule

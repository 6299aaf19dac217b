-- The violations so far, followed by those of the remaining routes, are the violations of all routes.
use Rattle.std.proofs.Common.{◌≡◌, ◌++◌, drop}
use Rattle.rule_violations.specs.Violations.{return_violations, return_violation_list, violations_from}
use Rattle.rule_violations.proofs.returns.return_violations.Given as goal

abbrev pub invariant-loop-number : goal.invariant-loop-number
invariant-loop-number l = l.found.items ++ violations_from (return_violation_list l.problem) l.number (drop l.number l.routes) ≡ return_violations l.problem l.routes

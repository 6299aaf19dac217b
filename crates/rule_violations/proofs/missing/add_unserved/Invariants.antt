-- The violations so far, followed by those of the remaining requests, are the old violations followed by those
-- of all unserved requests.
use Rattle.std.proofs.Common.{◌≡◌, ◌++◌, drop}
use Rattle.std.specs.Option.{option_to_list}
use Rattle.rule_violations.specs.Violations.{violations_from, unserved_violation, unserved_violations}
use Rattle.rule_violations.proofs.missing.add_unserved.Given as goal

abbrev pub invariant-loop-index : goal.invariant-loop-index
invariant-loop-index l =
    l.found.items ++ violations_from (λ _ e. option_to_list (unserved_violation l.routes e)) l.index (drop l.index l.problem.requests)
    ≡ l.fn.found.items ++ unserved_violations l.problem l.routes

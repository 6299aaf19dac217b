-- The violations so far, followed by those of the remaining stops, are the old violations followed by those of
-- all stops of the route.
use Rattle.std.proofs.Common.{◌≡◌, ◌++◌, drop}
use Rattle.std.specs.Option.{option_to_list}
use Rattle.rule_violations.specs.Violations.{stop_test, violations_from, violations_at_places}
use Rattle.rule_violations.proofs.stops.add_stops.Given as goal

abbrev pub invariant-loop-place : goal.invariant-loop-place
invariant-loop-place l =
    l.found.items ++ violations_from (λ i n. option_to_list (stop_test l.problem l.routes l.rule l.fn.number l.route i n)) l.place (drop l.place l.route)
    ≡ l.fn.found.items ++ violations_at_places (stop_test l.problem l.routes l.rule) l.fn.number l.route

-- The remaining visits are those from this place on. The violations so far, followed by those of the remaining
-- stops, are the old violations followed by those of the route.
use Rattle.std.proofs.Common.{◌≡◌, ◌++◌, drop}
use Rattle.std.specs.Option.{option_to_list}
use Rattle.route_sched.specs.VisitList.{visits_from}
use Rattle.rule_violations.specs.Violations.{violations_from, violations_at_places, visit_test}
use Rattle.rule_violations.proofs.visits.add_visits.Given as goal

abbrev pub invariant-loop-place : goal.invariant-loop-place
invariant-loop-place l = record {
  rest : visits_from l.visits.problem l.visits.route l.visits.place ≡ visits_from l.problem l.route l.place;
  reported : l.found.items ++ violations_from (λ i n. option_to_list (visit_test l.problem l.rule l.fn.number l.route i n)) l.place (drop l.place l.route)
      ≡ l.fn.found.items ++ violations_at_places (visit_test l.problem l.rule) l.fn.number l.route;
}

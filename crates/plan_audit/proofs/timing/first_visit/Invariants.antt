-- The remaining visits are those from this place on. The first remaining visit that fails the test is the first
-- of all visits that does.
use Rattle.std.proofs.Common.{◌≡◌, Bool, drop}
use Rattle.route_sched.specs.VisitList.{visits_from}
use Rattle.route_sched.specs.declared.visits.Visit.{Visit}
use Rattle.plan_audit.specs.FirstFault.{first_place_fault, visit_fault}
use Rattle.plan_audit.proofs.timing.first_visit.Given as goal

abbrev pub invariant-loop-place : goal.invariant-loop-place
invariant-loop-place g l = record {
  rest : visits_from l.visits.problem l.visits.route l.visits.place ≡ visits_from l.problem l.route l.place;
  reported : (test : Visit → Bool) → ((v : Visit) (b : Bool) → goal.F-post g l.fails v b → b ≡ test v)
      → first_place_fault (visit_fault l.problem test l.route) l.place (drop l.place l.route) ≡ first_place_fault (visit_fault l.problem test l.route) 0 l.route;
}

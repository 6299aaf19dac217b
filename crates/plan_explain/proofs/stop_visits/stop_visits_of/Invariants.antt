-- The list has the visits so far, the iterator has the remaining ones, and `last` is the visit of the current
-- place.
use Rattle.std.proofs.Common.{◌≡◌, map}
use Rattle.std.specs.List.{range_with_len}
use Rattle.route_sched.specs.Route.{place}
use Rattle.route_sched.specs.Schedule.{start}
use Rattle.route_sched.specs.VisitList.{visits_from}
use Rattle.plan_explain.specs.Tables.{stop_visit_after}
use Rattle.plan_explain.proofs.stop_visits.stop_visits_of.Given as goal

abbrev pub invariant-loop-place : goal.invariant-loop-place
invariant-loop-place l = record {
  stop_visits : l.stop_visits.items ≡ map (stop_visit_after l.problem l.route) (range_with_len 0 l.place);
  rest : visits_from l.visits.problem l.visits.route l.visits.place ≡ visits_from l.problem l.route l.place;
  stop : l.last.stop ≡ place l.problem l.route l.place;
  begun : l.last.start ≡ start l.problem l.route l.place;
}

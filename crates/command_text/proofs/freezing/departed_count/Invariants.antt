-- The vehicle has departed to each place so far, and the iterator has the visits of the remaining places.
use Rattle.std.proofs.Common.{◌≡◌, ◌+◌, length}
use Rattle.route_sched.specs.VisitList.{visit_after, visits_from}
use Rattle.command_text.specs.Freezing.{has_departed, departed_count}
use Rattle.command_text.proofs.FreezeLemmas.{prefix_from}
use Rattle.command_text.proofs.freezing.departed_count.Given as goal

abbrev pub invariant-loop-place : goal.invariant-loop-place
invariant-loop-place l = record {
  rest : visits_from l.visits.problem l.visits.route l.visits.place ≡ visits_from l.problem l.route l.place;
  counted : l.place + prefix_from (λ k. has_departed l.time (visit_after l.problem l.route k)) l.place (length l.route) ≡ departed_count l.problem l.route l.time;
}

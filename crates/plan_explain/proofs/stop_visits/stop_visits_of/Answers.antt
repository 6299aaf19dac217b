-- The iterator has a visit for each remaining place, and returns that of the next place.
use Rattle.std.proofs.Common.{◌∙◌, ◌∷◌, ◌++◌, [], arith, ap, sym, map}
use Rattle.std.specs.List.{range_with_len}
use Rattle.std.proofs.lemmas.List.FromFn.{map-range_with_len_more}
use Rattle.plan_types.specs.Instance.{Instance}
use Rattle.route_sched.specs.VisitsValue.{VisitsValue}
use Rattle.route_sched.specs.VisitList.{visits_from}
use Rattle.route_sched.specs.declared.visits.Visit.{Visit}
use Rattle.route_sched.proofs.KnownStops.{place-first}
use Rattle.route_sched.proofs.Steps.{start-first}
use Rattle.plan_audit.proofs.VisitLemmas.{visit_is, visits_left}
use Rattle.plan_explain.specs.Tables.{stop_visit_after}
use Rattle.plan_explain.proofs.RowLemmas.{stop_visit_is, in_time, none_left}
use Rattle.plan_explain.proofs.stop_visits.stop_visits_of.Goals as goal

pub loop-place-init : goal.loop-place-init
loop-place-init c =
    let p = c.args.problem.now in
    let route = c.args.route.now in
    record {
      stop_visits = c.new-stop_visits.ensures.items;
      rest = ap (λ (w : VisitsValue). visits_from w.problem w.route w.place) c.new-visits.ensures;
      stop = ap (λ (q : Instance). q.depot) c.problem.view_is ∙ sym (place-first p route);
      begun = c.from.ensures ∙ (ap (λ (q : Instance). q.depot.earliest) c.problem.view_is ∙ sym (start-first p route));
    }

pub stop_visit-requires-clause-time : goal.stop_visit-requires-clause-time
stop_visit-requires-clause-time c =
    let is = c.loop-place.invariant in
    let met = visit_is c.args.problem.now c.args.route.now c.loop-place.place c.in-Some.visit _ _ (omega arith) is.rest c.in-Some.ensures.steps in
    omega (arith, in_time c.args.problem.now c.args.route.now c.loop-place.place c.loop-place.last c.in-Some.visit is.stop is.begun met)

pub loop-place-preserved : goal.loop-place-preserved
loop-place-preserved c =
    let p = c.args.problem.now in
    let route = c.args.route.now in
    let k = c.loop-place.place in
    let is = c.loop-place.invariant in
    let met = visit_is p route k c.in-Some.visit _ _ (omega arith) is.rest c.in-Some.ensures.steps in
    let made = c.stop_visit.ensures ∙ stop_visit_is p route k c.loop-place.last c.in-Some.visit is.stop is.begun met in
    record {
      stop_visits =
          c.in_ok-push.ensures.items ∙ ap (λ hs. hs ++ c.stop_visit.result ∷ []) is.stop_visits
          ∙ ap (λ h. map (stop_visit_after p route) (range_with_len 0 k) ++ h ∷ []) made
          ∙ sym (map-range_with_len_more (stop_visit_after p route) 0 k k (omega arith));
      rest = visits_left p route k c.in-Some.visit _ _ (omega arith) is.rest c.in-Some.ensures.steps;
      stop = ap (λ (v : Visit). v.stop) met;
      begun = ap (λ (v : Visit). v.start) met;
    }

pub unreachable-requires : goal.unreachable-requires
unreachable-requires c =
    absurd (none_left c.args.problem.now c.args.route.now c.loop-place.place _ (omega arith) c.loop-place.invariant.rest (c.in-None.ensures.steps).0)

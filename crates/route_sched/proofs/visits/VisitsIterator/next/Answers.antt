-- The visit computed from the last visit and the next stop is the schedule's visit after this place, and one
-- visit fewer follows it.
use Rattle.std.proofs.Common.{◌≡◌, ◌+◌, ◌∙◌, ◌∷◌, ◌<◌, length, sym, ap, subst, arith}
use Rattle.plan_types.specs.Limits.{IsVisit}
use Rattle.plan_types.specs.declared.requests.Stop.{Stop}
use Rattle.route_sched.specs.Route.{place}
use Rattle.route_sched.specs.VisitList.{next_visit, visit_after, visits_from}
use Rattle.route_sched.specs.VisitsState.{IsVisitsState}
use Rattle.route_sched.specs.declared.visits.Visit.{Visit}
use Rattle.route_sched.specs.declared.visits.Visits.TheInside.{Inside}
use Rattle.route_sched.proofs.VisitLemmas.{visits_from-cons, visit_after_is, length-visits_from}
use Rattle.route_sched.proofs.visits.VisitsIterator.next.Goals as goal

-- the visit computed from the last visit is the visit after its place
visit_is : (a : Inside) (v : Visit) (stop : Stop) → IsVisitsState a → v ≡ next_visit a.last stop → stop ≡ place a.problem.now a.route.now (a.place + 1)
    → v ≡ visit_after a.problem.now a.route.now a.place
visit_is a v stop is made at = made ∙ visit_after_is a.problem.now a.route.now a.place a.last stop is.stop is.start is.load at

pub invariant_of-self : goal.invariant_of-self
invariant_of-self c =
    let is = c.self.invariant in
    let made = c.next_visit-self-inside.ensures in
    let met = visit_is c.self.inside _ _ is made.value c.next_stop-stop.ensures.value in
    let visit : IsVisit c.next_visit-self-inside.result.stop = subst (λ s. IsVisit s) (sym (ap (λ v. v.stop) made.value)) c.next_stop-stop.ensures.visit in
    record {
      route = is.route;
      few = is.few;
      within = omega arith;
      stop = ap (λ v. v.stop) met;
      visit = visit;
      start = ap (λ v. v.start) met;
      start_bound = omega (
        arith,
        ap (λ v. v.start) made.value,
        ap (λ v. v.leg) made.value,
        made.leg,
        is.start_bound,
        is.visit.service,
        c.next_stop-stop.ensures.visit.window,
        c.next_stop-stop.ensures.visit.latest,
      );
      load = ap (λ v. v.load) met;
      load_bound = omega (arith, made.load, is.load_bound);
    }

pub returns-clause-steps : goal.returns-clause-steps
returns-clause-steps c =
    let met = visit_is c.self.inside _ _ c.self.invariant c.next_visit-self-inside.ensures.value c.next_stop-stop.ensures.value in
    ap (λ w. visits_from w.problem w.route w.place) (sym c.self.view_is)
    ∙ (visits_from-cons c.self.inside.problem.now c.self.inside.route.now c.self.inside.place c.if-self.false
    ∙ ap (λ v. v ∷ visits_from c.self.inside.problem.now c.self.inside.route.now (c.self.inside.place + 1)) (sym met))

pub returns-clause-goes : goal.returns-clause-goes
returns-clause-goes c =
    let fewer : length (visits_from c.self.inside.problem.now c.self.inside.route.now (c.self.inside.place + 1))
    < length (visits_from c.args.self.now.problem c.args.self.now.route c.args.self.now.place) =
    subst
    (λ w. length (visits_from c.self.inside.problem.now c.self.inside.route.now (c.self.inside.place + 1)) < length (visits_from w.problem w.route w.place))
    c.self.view_is
    (length-visits_from c.self.inside.problem.now c.self.inside.route.now c.self.inside.place c.if-self.false)
    in
    record { on = λ _. (tt, tt, fewer); keeps = tt; rests = λ _. tt }

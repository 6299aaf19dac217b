-- At place 0 the vehicle is at the depot, at the depot's earliest time, with load 0.
use Rattle.std.proofs.Common.{◌∙◌, sym, ap, subst, arith}
use Rattle.plan_types.specs.Limits.{IsVisit}
use Rattle.plan_types.specs.Instance.{IsInstance}
use Rattle.route_sched.proofs.KnownStops.{few_stops, place-first}
use Rattle.route_sched.proofs.Steps.{start-first, load-first}
use Rattle.route_sched.proofs.visits.Visits.new.Goals as goal

pub invariant_of-result : goal.invariant_of-result
invariant_of-result c =
    let p = c.args.problem.now in
    let route = c.args.route.now in
    let valid : IsInstance c.args.problem.now = subst (λ q. IsInstance q) c.problem.view_is c.problem.invariant.valid in
    let visit : IsVisit c.problem.inside.depot = c.problem.invariant.valid.depot.visit in
    record {
      route = c.requires;
      few = few_stops p route valid c.requires;
      within = omega arith;
      stop = ap (λ q. q.depot) c.problem.view_is ∙ sym (place-first p route);
      visit = visit;
      start = c.from.ensures ∙ (ap (λ q. q.depot.earliest) c.problem.view_is ∙ sym (start-first p route));
      start_bound = omega (arith, c.from.ensures, visit.window, visit.latest);
      load = sym (load-first p route);
      load_bound = omega arith;
    }

-- With each leg, the sum is the distance up to the next place. After the last leg it is the route's length, at
-- most 5,656,854 for each stop.
use Rattle.std.proofs.Common.{rules, ◌≡◌, ◌∙◌, ◌+◌, ◌≤◌, length, sym, ap, subst, arith}
use Rattle.plan_types.specs.Instance.{IsInstance}
use Rattle.route_sched.proofs.KnownStops.{few_stops, place-first}
use Rattle.route_sched.proofs.Steps.{length_before, length_before-first, length_before-leg, route_length_is, route_length-empty, route_length_le}
use Rattle.route_sched.proofs.schedule.route_distance.Goals as goal

pub loop-k-init : goal.loop-k-init
loop-k-init c =
    let valid : IsInstance c.args.problem.now = subst (λ q. IsInstance q) c.problem.view_is c.problem.invariant.valid in
    record {
      few = few_stops c.args.problem.now c.args.route.now valid c.requires;
      last = ap (λ q. q.depot) c.problem.view_is ∙ sym (place-first c.args.problem.now c.args.route.now);
      visit = c.problem.invariant.valid.depot.visit;
      sum = sym (length_before-first c.args.problem.now c.args.route.now);
      bound = omega arith;
    }

pub loop-k-preserved : goal.loop-k-preserved
loop-k-preserved c =
    let is = c.loop-k.invariant in
    let next = c.next_stop-stop.ensures in
    record {
      few = is.few;
      last = next.value;
      visit = next.visit;
      sum = length_before-leg c.args.problem.now c.args.route.now c.loop-k.k _ _ _ _ is.last next.value is.sum (c.from-distance.ensures ∙ c.dist.ensures.value);
      bound = omega (arith, c.dist.ensures.bound);
    }

pub returns-then-is_empty-clause-value : goal.returns-then-is_empty-clause-value
returns-then-is_empty-clause-value c =
    let none : length c.args.route.now ≡ 0 = search rules in
    sym (route_length-empty c.args.problem.now c.args.route.now none)

pub returns-else-is_empty-2-clause-value : goal.returns-else-is_empty-2-clause-value
returns-else-is_empty-2-clause-value c =
    let is = c.loop-k.invariant in
    let next = c.next_stop-stop.ensures in
    let end : c.loop-k.k ≡ length c.args.route.now = omega arith in
    length_before-leg c.args.problem.now c.args.route.now c.loop-k.k _ _ _ _ is.last next.value is.sum (c.from-distance.ensures ∙ c.dist.ensures.value)
    ∙ (ap (λ k. length_before c.args.problem.now c.args.route.now (k + 1)) end ∙ sym (route_length_is c.args.problem.now c.args.route.now))

pub returns-else-is_empty-2-clause-bound : goal.returns-else-is_empty-2-clause-bound
returns-else-is_empty-2-clause-bound c =
    let end : c.loop-k.k ≡ length c.args.route.now = omega arith in
    let short : c.from-distance.result ≤ 2828427 = omega (arith, c.dist.ensures.bound) in
    route_length_le c.args.problem.now c.args.route.now c.loop-k.k c.loop-k.distance c.from-distance.result end
    (returns-else-is_empty-2-clause-value c) c.loop-k.invariant.bound short

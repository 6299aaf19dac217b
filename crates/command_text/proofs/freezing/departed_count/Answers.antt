-- The loop ends at the first place to which the vehicle has not departed, or at the end of the route.
use Rattle.std.proofs.Common.{rules, ◌≡◌, ◌∙◌, ◌≤◌, ℕ, true, false, [], length, sym, ap, arith}
use Rattle.route_sched.specs.VisitList.{visit_after, visits_from}
use Rattle.plan_audit.proofs.VisitLemmas.{visit_is, visits_left}
use Rattle.command_text.specs.Freezing.{has_departed}
use Rattle.command_text.proofs.FreezeLemmas.{prefix_ends, prefix_continues, prefix_none, no_visit}
use Rattle.command_text.proofs.freezing.departed_count.Goals as goal

pub returns-in_default : goal.returns-in_default
returns-in_default c =
    let left : visits_from c.loop-place.visits.problem c.loop-place.visits.route c.loop-place.visits.place ≡ [] = search rules in
    no_visit c.args.problem.now c.args.route.now c.loop-place.place (omega (arith, c.loop-place-test.true)) (sym c.loop-place.invariant.rest ∙ left)

pub returns-then-not-has_departed : goal.returns-then-not-has_departed
returns-then-not-has_departed c =
    let p = c.args.problem.now in
    let route = c.args.route.now in
    let k = c.loop-place.place in
    let test = λ (i : ℕ). has_departed c.args.time (visit_after p route i) in
    let here = visit_is p route k c.in-Some.visit _ _ (omega (arith, c.loop-place-test.true)) c.loop-place.invariant.rest c.in-Some.ensures.steps in
    let not_yet : has_departed c.args.time (visit_after p route k) ≡ false = sym (ap (has_departed c.args.time) here) ∙ sym c.has_departed.ensures ∙ c.if-not-has_departed.true in
    omega (arith, c.loop-place.invariant.counted, prefix_ends test k (length route) c.loop-place-test.true not_yet)

pub loop-place-preserved : goal.loop-place-preserved
loop-place-preserved c =
    let p = c.args.problem.now in
    let route = c.args.route.now in
    let k = c.loop-place.place in
    let test = λ (i : ℕ). has_departed c.args.time (visit_after p route i) in
    let le : k ≤ length route = omega (arith, c.loop-place-test.true) in
    let here = visit_is p route k c.in-Some.visit _ _ le c.loop-place.invariant.rest c.in-Some.ensures.steps in
    let on : has_departed c.args.time (visit_after p route k) ≡ true = sym (ap (has_departed c.args.time) here) ∙ sym c.has_departed.ensures ∙ c.if-not-has_departed.false in
    record {
      rest = visits_left p route k c.in-Some.visit _ _ le c.loop-place.invariant.rest c.in-Some.ensures.steps;
      counted = omega (arith, c.loop-place.invariant.counted, prefix_continues test k (length route) c.loop-place-test.true on);
    }

pub returns : goal.returns
returns c =
    let p = c.args.problem.now in
    let route = c.args.route.now in
    let test = λ (i : ℕ). has_departed c.args.time (visit_after p route i) in
    omega (arith, c.loop-place.invariant.counted, c.loop-place.auto.place-end, c.loop-place-test.false, prefix_none test c.loop-place.place (length route) (omega (arith, c.loop-place-test.false)))

-- If this visit fails the test, it is the first failing one from here on. Otherwise the first failing one comes
-- after it.
use Rattle.std.proofs.Common.{◌<◌, cond, Some, None, length, arith, sym, ap, ◌∙◌, get_or}
use Rattle.plan_audit.specs.FirstFault.{visit_fault}
use Rattle.plan_audit.proofs.VisitLemmas.{visit_is, visits_left, reported_here, reported_later, visit_fails}
use Rattle.plan_audit.proofs.timing.first_visit.Goals as goal

pub returns-then-fails-clause-reported : goal.returns-then-fails-clause-reported
returns-then-fails-clause-reported g c test is =
    let k = c.loop-place.place in
    let route = c.args.route.now in
    let p = c.args.problem.now in
    let within : k < length route = omega arith in
    let visit = visit_is p route k c.in-Some.visit _ _ (omega arith) c.loop-place.invariant.rest c.in-Some.ensures.steps in
    let reported = visit_fails p test route k c.in-Some.visit c.fails.result visit (is c.in-Some.visit c.fails.result c.fails.ensures) in
    let some = reported ∙ ap (λ b. cond b (Some (get_or route k 0)) None) c.if-fails.true in
    sym (reported_here (visit_fault p test route) k route (get_or route k 0) within some) ∙ c.loop-place.invariant.reported test is

pub loop-place-preserved : goal.loop-place-preserved
loop-place-preserved g c =
    let k = c.loop-place.place in
    let route = c.args.route.now in
    let p = c.args.problem.now in
    let within : k < length route = omega arith in
    let rest = c.loop-place.invariant.rest in
    let steps = c.in-Some.ensures.steps in
    record {
      rest = visits_left p route k c.in-Some.visit _ _ (omega arith) rest steps;
      reported = λ test is.
          (let visit = visit_is p route k c.in-Some.visit _ _ (omega arith) rest steps in
          let reported = visit_fails p test route k c.in-Some.visit c.fails.result visit (is c.in-Some.visit c.fails.result c.fails.ensures) in
          let none = reported ∙ ap (λ b. cond b (Some (get_or route k 0)) None) c.if-fails.false in
          sym (reported_later (visit_fault p test route) k route within none) ∙ c.loop-place.invariant.reported test is);
    }

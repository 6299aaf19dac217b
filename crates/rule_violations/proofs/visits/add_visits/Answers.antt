-- The violations of this visit are appended, and the remaining visits are those after it.
use Rattle.std.proofs.Common.{◌<◌, length, arith}
use Rattle.plan_audit.proofs.VisitLemmas.{visit_is, visits_left}
use Rattle.rule_violations.proofs.StepLemmas.{visit_kept}
use Rattle.rule_violations.proofs.visits.add_visits.Goals as goal

pub loop-place-preserved : goal.loop-place-preserved
loop-place-preserved c =
    let k = c.loop-place.place in
    let route = c.args.route.now in
    let p = c.args.problem.now in
    let within : k < length route = omega arith in
    let rest = c.loop-place.invariant.rest in
    let steps = c.in-Some.ensures.steps in
    record {
      rest = visits_left p route k c.in-Some.visit _ _ (omega arith) rest steps;
      reported = visit_kept p c.args.rule c.args.number route k c.in-Some.visit c.position_at-position.result _ _ _ c.visit_violation.result within
          (visit_is p route k c.in-Some.visit _ _ (omega arith) rest steps) c.position_at-position.ensures c.visit_violation.ensures c.in_ok-add.ensures
          c.loop-place.invariant.reported;
    }

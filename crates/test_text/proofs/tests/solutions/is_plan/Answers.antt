-- Routes that pass the audit are a plan.
use Rattle.std.proofs.Common.{subst}
use Rattle.plan_audit.specs.Verdict.{planned, IsVerdict}
use Rattle.test_text.proofs.tests.solutions.is_plan.Goals as goal

pub returns-in-Pass : goal.returns-in-Pass
returns-in-Pass c = λ passes.
    (let s = planned c.args.plan.now.routes c.new.result in
    (c.routes_that_pass_are_a_plan.ensures c.args.problem.now s c.in-Pass.field-0 (subst (IsVerdict c.args.problem.now s) c.in-Pass.is c.in_ok-audit.ensures)).0)

-- The answer for an examination is the answer of the audit, and its verdict is the one for some printed cost.
use Rattle.std.proofs.Common.{◌≡◌, ℕ, Bool, true, false, List, inl, inr}
use Rattle.plan_audit.specs.Laws.{RoutesAreJudgedByTrueCost}
use Rattle.route_sched.specs.Cost.{total_length}
use Rattle.instance_read.specs.declared.formats.Format.{Format}
use Rattle.auditor_cli.specs.Answer.{IsAnswerBy}
use Rattle.auditor_cli.specs.Examination.{HasVerdictForSomeCost, IsExaminedBy, answer_of}
use Rattle.auditor_cli.specs.declared.answer.AuditAnswer.{AuditAnswer}
use Rattle.auditor_cli.specs.declared.audit.Examination.{Examination}
use Rattle.auditor_cli.specs.declared.audit.Examination.TheVariants.{BadCost, BadInstance, BadSolution, Judged}

pub answer_is : (routes_alone : Bool) (format : Format) (instance solution : List ℕ) (e : Examination) (answer : AuditAnswer) → IsExaminedBy routes_alone format instance solution e → answer ≡ answer_of e
    → IsAnswerBy routes_alone format instance solution answer
answer_is false format instance solution (BadInstance f) answer is reported = inl (record { fault = f; first = is; reported = reported })
answer_is false format instance solution (BadSolution f) answer is reported = inr (inl (record { problem = is.problem; spelled = is.spelled; fault = f; first = is.faulty.0; reported = reported }))
answer_is false format instance solution (BadCost p routes f) answer is reported = inr (inl (record { problem = p; spelled = is.problem_spelled; fault = f; first = is.lacks_cost.first; reported = reported }))
answer_is false format instance solution (Judged p plan v) answer is reported =
    inr (inr (record {
      problem = p;
      problem_spelled = is.problem_spelled;
      problem_kept = is.problem_kept;
      plan = plan;
      plan_spelled = is.plan_spelled;
      verdict = record { verdict = v; is_verdict = is.is_verdict; reported = reported };
    }))
answer_is true format instance solution (BadInstance f) answer is reported = inl (record { fault = f; first = is; reported = reported })
answer_is true format instance solution (BadSolution f) answer is reported = inr (inl (record { problem = is.problem; spelled = is.spelled; fault = f; first = is.first; reported = reported }))
answer_is true format instance solution (BadCost p routes f) answer is reported = absurd is
answer_is true format instance solution (Judged p plan v) answer is reported =
    inr (inr (record {
      problem = p;
      problem_spelled = is.problem_spelled;
      problem_kept = is.problem_kept;
      routes = plan.routes;
      routes_spelled = is.routes_spelled;
      verdict = v;
      is_verdict = is.is_verdict;
      reported = reported;
    }))

pub has_verdict : RoutesAreJudgedByTrueCost → (routes_alone : Bool) (format : Format) (instance solution : List ℕ) (e : Examination) → IsExaminedBy routes_alone format instance solution e → HasVerdictForSomeCost e
has_verdict law false format instance solution (BadInstance f) is = tt
has_verdict law false format instance solution (BadSolution f) is = tt
has_verdict law false format instance solution (BadCost p routes f) is = tt
has_verdict law false format instance solution (Judged p plan v) is = (plan.cost, is.is_verdict)
has_verdict law true format instance solution (BadInstance f) is = tt
has_verdict law true format instance solution (BadSolution f) is = tt
has_verdict law true format instance solution (BadCost p routes f) is = tt
has_verdict law true format instance solution (Judged p plan v) is = (total_length p plan.routes, (law p plan.routes v).0 is.is_verdict)

-- The two texts are the built-in ones.
use Rattle.std.proofs.Common.{subst}
use Rattle.std.specs.Prelude.{IfOk}
use Rattle.std.proofs.lemmas.Result.{IfOk-weaker}
use Rattle.plan_types.specs.declared.requests.Kind.TheVariants.{LiLim}
use Rattle.instance_read.specs.Formats.{format_of}
use Rattle.auditor_cli.specs.Answer.{IsAnswer}
use Rattle.auditor_cli.specs.Messages.{example_solution}
use Rattle.auditor_cli.proofs.example.audit_example.Goals as goal

pub returns-clause-reported : goal.returns-clause-reported
returns-clause-reported g c =
    let answer = c.audit_text-answer.result in
    let is_answer = subst (λ x. IfOk answer (IsAnswer (format_of LiLim) x example_solution)) c.as_bytes-instance.ensures.value
    (subst (λ y. IfOk answer (IsAnswer (format_of LiLim) c.as_bytes-instance.result.now y)) c.as_bytes-solution.ensures.value c.audit_text-answer.ensures.answer) in
    IfOk-weaker c.print_audit.result _ _ (λ status reported. (answer, is_answer, reported)) c.print_audit.ensures

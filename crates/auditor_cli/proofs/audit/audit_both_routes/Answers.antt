-- The answer is that of the examined texts.
use Rattle.std.proofs.Common.{true}
use Rattle.std.proofs.lemmas.Result.{IfOk-weaker}
use Rattle.auditor_cli.proofs.ExaminationLemmas.{answer_is}
use Rattle.auditor_cli.proofs.audit.audit_both_routes.Goals as goal

pub returns-clause-answer : goal.returns-clause-answer
returns-clause-answer c =
    IfOk-weaker c.answer_of.result _ _
    (λ answer reported. answer_is true c.args.format c.args.instance.now c.args.solution.now c.in_ok-examined.examined answer c.in_ok-examined.ensures reported) c.answer_of.ensures

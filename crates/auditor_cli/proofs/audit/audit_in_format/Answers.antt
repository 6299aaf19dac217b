-- The answer for the problem and the solution that were read is the answer for every problem and solution that
-- the texts spell.
use Rattle.std.proofs.lemmas.Result.{IfOk-weaker}
use Rattle.auditor_cli.proofs.SpelledLemmas.{judges_spelled, says_sound}
use Rattle.auditor_cli.proofs.audit.audit_in_format.Goals as goal

pub returns-clause-verdict : goal.returns-clause-verdict
returns-clause-verdict c =
    IfOk-weaker c.audit_both.result _ _ (λ answer h. judges_spelled c.args.format c.args.instance.now c.args.solution.now answer h) c.audit_both.ensures.answer

pub returns-clause-sound : goal.returns-clause-sound
returns-clause-sound c =
    IfOk-weaker c.audit_both.result _ _ (λ answer h. says_sound c.solutions_pass_iff_sound.ensures c.args.format c.args.instance.now c.args.solution.now answer h) c.audit_both.ensures.answer

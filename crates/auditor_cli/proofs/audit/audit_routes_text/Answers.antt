-- The status is 0 exactly for sound routes, by the meaning of a verdict.
use Rattle.std.proofs.lemmas.Result.{IfOk-weaker}
use Rattle.auditor_cli.proofs.SpelledLemmas.{says_routes_sound}
use Rattle.auditor_cli.proofs.audit.audit_routes_text.Goals as goal

pub returns-clause-sound : goal.returns-clause-sound
returns-clause-sound c =
    IfOk-weaker c.audit_both_routes.result _ _
    (λ answer h. says_routes_sound c.solutions_pass_iff_sound.ensures c.routes_are_judged_by_true_cost.ensures c.args.format c.args.instance.now c.args.solution.now answer h)
    c.audit_both_routes.ensures.answer

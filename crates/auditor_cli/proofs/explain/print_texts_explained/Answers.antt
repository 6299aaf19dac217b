-- The explanation that is printed is the one that `explain` returns.
use Rattle.std.proofs.lemmas.Result.{IfOk-weaker}
use Rattle.auditor_cli.proofs.explain.print_texts_explained.Goals as goal

pub returns-clause-reported : goal.returns-clause-reported
returns-clause-reported g c =
    let explained = c.explain-explained in
    IfOk-weaker c.print_explanation_result.result _ _
    (λ status reported. record { explained = explained.result; answers = explained.ensures.answer; explains = explained.ensures.explains; reported = reported })
    c.print_explanation_result.ensures

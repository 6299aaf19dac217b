-- The answer and its explanation have the same verdict.
use Rattle.std.proofs.lemmas.Result.{IfOk-weaker}
use Rattle.auditor_cli.proofs.ExaminationLemmas.{answer_is, has_verdict}
use Rattle.auditor_cli.proofs.explain.explain.Goals as goal

pub explanation_of-requires : goal.explanation_of-requires
explanation_of-requires c =
    has_verdict c.routes_are_judged_by_true_cost.ensures c.args.routes_alone c.args.format c.args.instance.now c.args.solution.now c.in_ok-examined.examined c.in_ok-examined.ensures

pub returns-clause-answer : goal.returns-clause-answer
returns-clause-answer c =
    IfOk-weaker c.explanation_of.result _ _
    (λ explanation is. answer_is c.args.routes_alone c.args.format c.args.instance.now c.args.solution.now c.in_ok-examined.examined explanation.answer c.in_ok-examined.ensures is)
    c.explanation_of.ensures.answer

-- The answer of the audit is that for the examined files. A timetable can be made of the routes of a partial plan.
use Rattle.std.proofs.Common.{false, inl, subst}
use Rattle.std.proofs.lemmas.Result.{IfOk-weaker}
use Rattle.auditor_cli.specs.Partial.{IsPlanExamined}
use Rattle.auditor_cli.proofs.ExaminationLemmas.{answer_is}
use Rattle.auditor_cli.proofs.PartialLemmas.{partial_distinct}
use Rattle.planner_cli.proofs.timetable.timetable_texts.Goals as goal

pub partial_report-requires : goal.partial_report-requires
partial_report-requires c =
    partial_distinct c.args.format c.args.instance.now c.args.solution.now c.in-Partial.partial
    (subst (IsPlanExamined c.args.format c.args.instance.now c.args.solution.now) c.in-Partial.is c.in_ok-examined.ensures)

pub returns-in-Whole-clause-answer : goal.returns-in-Whole-clause-answer
returns-in-Whole-clause-answer c =
    let examined = subst (IsPlanExamined c.args.format c.args.instance.now c.args.solution.now) c.in-Whole.is c.in_ok-examined.ensures in
    IfOk-weaker c.whole_report.result _ _
    (λ reported is. inl (answer_is false c.args.format c.args.instance.now c.args.solution.now c.in-Whole.examined reported.explanation.answer examined.0 is.answers))
    c.whole_report.ensures

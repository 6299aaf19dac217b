-- Either the file was read and the result is printed, or it could not be read.
use Rattle.std.proofs.Common.{inl, inr, subst}
use Rattle.std.specs.IoError.{error_kind}
use Rattle.std.specs.Prelude.{MatchResult}
use Rattle.std.specs.Io.KnownBytes.{Appends}
use Rattle.std.proofs.KnownBytes.{Appends-nil}
use Rattle.std.proofs.lemmas.Result.{IfOk-weaker}
use Rattle.plan_solve.specs.Solved.{Fails, IsSolved}
use Rattle.auditor_cli.specs.IgnoredLines.{ignored_limit_note}
use Rattle.auditor_cli.specs.Messages.{PrintsReadFailure}
use Rattle.planner_cli.proofs.solve.solve_instance.Goals as goal

pub returns-in-Err-clause-reported : goal.returns-in-Err-clause-reported
returns-in-Err-clause-reported g c =
    let task = c.args.task in
    let errors = g.E.Write.contents c.args.errors.now in
    let later = g.E.Write.contents c.print_read_failure.new.output in
    IfOk-weaker c.print_read_failure.result _ _
    (λ status reported. inr (
      error_kind c.in-Err.error,
      c.in-Err.ensures,
      subst (λ kind. PrintsReadFailure task.instance.now kind errors later status) c.kind.ensures reported,
      Appends-nil (g.W.Write.contents c.args.output.now),
    )) c.print_read_failure.ensures

pub returns-clause-reported : goal.returns-clause-reported
returns-clause-reported g c =
    let task = c.args.task in
    let errors = g.E.Write.contents c.args.errors.now in
    let noted = g.E.Write.contents c.print_ignored_limit.new.errors in
    let limit = subst (λ x. Appends errors noted (ignored_limit_note task.format task.instance.now x)) c.deref.ensures.value c.in_ok-print_ignored_limit.ensures in
    let found = c.solve-solved.result in
    let searched = g.E.Write.contents c.solve-solved.new.progress in
    let solves = subst (λ x. MatchResult found (IsSolved task.format x task.seed task.steps task.deviation noted searched) (Fails task.format x noted searched)) c.deref-2.ensures.value
    c.solve-solved.ensures in
    IfOk-weaker c.print_solve_result-reported.result _ _
    (λ status reported. inl (c.in-Ok.text.items, noted, c.in-Ok.ensures, limit, record { found = found; searched = searched; solves = solves; reported = reported })) c.print_solve_result-reported.ensures.reported

-- Either both files were read and the timetable is printed, or one of them could not be read.
use Rattle.std.proofs.Common.{subst, inl, inr}
use Rattle.std.proofs.KnownBytes.{Appends-nil}
use Rattle.std.proofs.lemmas.Result.{IfOk-weaker}
use Rattle.std.specs.Prelude.{IfOk}
use Rattle.auditor_cli.specs.Partial.{IsPlanAnswer}
use Rattle.planner_cli.specs.Timetable.{IsTimetable}
use Rattle.planner_cli.proofs.timetable.timetable_files.Goals as goal

pub returns-in-Err-clause-reported : goal.returns-in-Err-clause-reported
returns-in-Err-clause-reported g c =
    let unread = c.in-Err.unread in
    let silent = Appends-nil (g.E.Write.contents c.args.errors.now) in
    IfOk-weaker c.print_read_failure.result _ _ (λ status reported. inr (record { path = unread.path.now; error = unread.kind; unread = c.in-Err.ensures; reported = reported }, silent)) c.print_read_failure.ensures

pub returns-clause-reported : goal.returns-clause-reported
returns-clause-reported g c =
    let kind = c.args.paths.format in
    let both = c.in-Ok.both in
    let made = c.timetable_texts-reported.result in
    let answers = subst (λ x. IfOk made (λ e. IsPlanAnswer kind x both.1.items e.explanation.answer)) c.deref.ensures.value
    (subst (λ y. IfOk made (λ e. IsPlanAnswer kind c.deref.result.now y e.explanation.answer)) c.deref-2.ensures.value c.timetable_texts-reported.ensures.answer) in
    let tells = subst (λ x. IfOk made (IsTimetable kind c.args.form x both.1.items)) c.deref.ensures.value
    (subst (λ y. IfOk made (IsTimetable kind c.args.form c.deref.result.now y)) c.deref-2.ensures.value c.timetable_texts-reported.ensures.tells) in
    IfOk-weaker c.print_timetable.result _ _
    (λ status reported. inl (record {
      x = both.0.items;
      y = both.1.items;
      read = c.in-Ok.ensures;
      made = made;
      answers = answers;
      tells = tells;
      reported = reported;
    })) c.print_timetable.ensures

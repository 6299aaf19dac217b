-- The output is determined by the results of the reads.
use Rattle.std.proofs.Common.{◌≡◌, ◌++◌, subst, inl, inr}
use Rattle.std.proofs.KnownBytes.{Appends-nil}
use Rattle.std.proofs.lemmas.Result.{IfOk-weaker}
use Rattle.std.specs.Io.KnownBytes.{Appends}
use Rattle.auditor_cli.specs.IgnoredLines.{ignored_line_note, ignored_limit_note}
use Rattle.auditor_cli.specs.Explain.{ExplainsTexts}
use Rattle.auditor_cli.proofs.explain.explain_files.Goals as goal

pub returns-in-Err-clause-reported : goal.returns-in-Err-clause-reported
returns-in-Err-clause-reported g c =
    let unread = c.in-Err.unread in
    IfOk-weaker c.print_read_failure.result _ _
    (λ status reported. (
      inr (record { path = unread.path.now; error = unread.kind; unread = c.in-Err.ensures; reported = reported }),
      inr (unread.path.now, unread.kind, c.in-Err.ensures, Appends-nil (g.E.Write.contents c.args.errors.now)),
    )) c.print_read_failure.ensures

pub returns-in-Ok-clause-reported : goal.returns-in-Ok-clause-reported
returns-in-Ok-clause-reported g c =
    let both = c.in-Ok.both in
    let paths = c.args.paths in
    let before = g.E.Write.contents c.args.errors.now in
    let after = g.E.Write.contents c.print_both.new.errors in
    let reported_before = g.W.Write.contents c.args.output.now in
    let reported_after = g.W.Write.contents c.print_both.new.output in
    let x = c.deref.result.now in
    let y = c.deref-in-Ok.result.now in
    let is_x : x ≡ both.0.items = c.deref.ensures.value in
    let is_y : y ≡ both.1.items = c.deref-in-Ok.ensures.value in
    IfOk-weaker c.print_both.result _ _
    (λ status reported. (
      inl (record {
        x = both.0.items;
        y = both.1.items;
        read = c.in-Ok.ensures;
        texts =
            subst (λ t. ExplainsTexts c.args.routes_alone paths.format t both.1.items reported_before reported_after status) is_x
            (subst (λ t. ExplainsTexts c.args.routes_alone paths.format x t reported_before reported_after status) is_y reported.0);
      }),
      inl (
        both.0.items,
        both.1.items,
        c.in-Ok.ensures,
        subst (λ t. Appends before after (ignored_line_note paths.solution.now both.1.items ++ ignored_limit_note paths.format paths.instance.now t)) is_x
            (subst (λ t. Appends before after (ignored_line_note paths.solution.now t ++ ignored_limit_note paths.format paths.instance.now x)) is_y reported.1),
      ),
    ))
    c.print_both.ensures.reported

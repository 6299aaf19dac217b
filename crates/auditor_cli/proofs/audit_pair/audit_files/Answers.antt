-- The output is determined by the results of the reads.
use Rattle.std.proofs.Common.{◌≡◌, ◌++◌, subst, inl, inr}
use Rattle.std.proofs.KnownBytes.{Appends-nil}
use Rattle.std.proofs.lemmas.Result.{IfOk-weaker}
use Rattle.std.specs.Io.KnownBytes.{Appends}
use Rattle.auditor_cli.specs.Answer.{IsAnswerBy}
use Rattle.auditor_cli.specs.IgnoredLines.{ignored_line_note, ignored_limit_note}
use Rattle.auditor_cli.proofs.FileLemmas.{texts_reported, unread_reported}
use Rattle.auditor_cli.proofs.audit_pair.audit_files.Goals as goal

pub returns-in-Err-clause-reported : goal.returns-in-Err-clause-reported
returns-in-Err-clause-reported g c =
    let path = c.in-Err.unread.path.now in
    let kind = c.in-Err.unread.kind in
    IfOk-weaker c.print_read_failure.result _ _
    (λ status reported. (
      unread_reported (IsAnswerBy c.args.routes_alone c.args.paths.format) c.args.paths.instance.now c.args.paths.solution.now _ _ _ _ status path kind c.in-Err.ensures reported,
      inr (path, kind, c.in-Err.ensures, Appends-nil (g.E.Write.contents c.args.errors.now)),
    ))
    c.print_read_failure.ensures

pub returns-in-Ok-clause-reported : goal.returns-in-Ok-clause-reported
returns-in-Ok-clause-reported g c =
    let both = c.in-Ok.both in
    let paths = c.args.paths in
    let before = g.E.Write.contents c.args.errors.now in
    let after = g.E.Write.contents c.print_both.new.errors in
    let x = c.deref.result.now in
    let y = c.deref-in-Ok.result.now in
    let is_x : x ≡ both.0.items = c.deref.ensures.value in
    let is_y : y ≡ both.1.items = c.deref-in-Ok.ensures.value in
    IfOk-weaker c.print_both.result _ _
    (λ status reported. (
      texts_reported (IsAnswerBy c.args.routes_alone paths.format) paths.instance.now paths.solution.now _ _ _ _ status both.0.items both.1.items x y is_x is_y c.in-Ok.ensures reported.0,
      inl (
        both.0.items,
        both.1.items,
        c.in-Ok.ensures,
        subst (λ t. Appends before after (ignored_line_note paths.solution.now both.1.items ++ ignored_limit_note paths.format paths.instance.now t)) is_x
            (subst (λ t. Appends before after (ignored_line_note paths.solution.now t ++ ignored_limit_note paths.format paths.instance.now x)) is_y reported.1),
      ),
    ))
    c.print_both.ensures.reported

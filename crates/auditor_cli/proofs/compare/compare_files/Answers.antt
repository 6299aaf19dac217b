-- The output is determined by the results of the reads.
use Rattle.std.proofs.Common.{◌≡◌, subst, inl, inr}
use Rattle.std.proofs.KnownBytes.{Appends-nil}
use Rattle.std.proofs.lemmas.Result.{IfOk-weaker}
use Rattle.std.specs.Io.KnownBytes.{Appends}
use Rattle.auditor_cli.specs.IgnoredLines.{listed_note}
use Rattle.auditor_cli.specs.Compare.{IsListedAnswer}
use Rattle.auditor_cli.proofs.FileLemmas.{texts_reported, unread_reported}
use Rattle.auditor_cli.proofs.compare.compare_files.Goals as goal

pub returns-in-Err-clause-reported : goal.returns-in-Err-clause-reported
returns-in-Err-clause-reported g c =
    let pair = c.args.pair.now in
    let path = c.in-Err.unread.path.now in
    let kind = c.in-Err.unread.kind in
    IfOk-weaker c.print_read_failure.result _ _
    (λ status reported. (
      unread_reported (IsListedAnswer c.args.routes_alone pair.paths.format pair.best) pair.paths.instance.now pair.paths.solution.now _ _ _ _ status path kind c.in-Err.ensures reported,
      inr (path, kind, c.in-Err.ensures, Appends-nil (g.E.Write.contents c.args.errors.now)),
    ))
    c.print_read_failure.ensures

pub returns-in-Ok-clause-reported : goal.returns-in-Ok-clause-reported
returns-in-Ok-clause-reported g c =
    let pair = c.args.pair.now in
    let both = c.in-Ok.both in
    let x = c.deref.result.now in
    let y = c.deref-in-Ok.result.now in
    let is_x : x ≡ both.0.items = c.deref.ensures.value in
    let is_y : y ≡ both.1.items = c.deref-in-Ok.ensures.value in
    IfOk-weaker c.print_listed.result _ _
    (λ status reported. (
      texts_reported
          (IsListedAnswer c.args.routes_alone pair.paths.format pair.best) pair.paths.instance.now pair.paths.solution.now _ _ _ _ status both.0.items both.1.items x y is_x is_y c.in-Ok.ensures reported.0,
      inl (
        both.0.items,
        both.1.items,
        c.in-Ok.ensures,
        subst (λ t. Appends (g.E.Write.contents c.args.errors.now) (g.E.Write.contents c.print_listed.new.errors)
            (listed_note c.args.place.list.now c.args.place.number pair.paths.solution.now t)) is_y reported.1,
      ),
    ))
    c.print_listed.ensures.reported

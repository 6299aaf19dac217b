-- Each line adds its own result. After the last line, everything is printed.
use Rattle.std.proofs.Common.{◌≡◌, ◌∙◌, ◌∷◌, Err, Ok, ap, false, inr, rules, subst, sym, true}
use Rattle.std.specs.IoError.{error_kind}
use Rattle.std.proofs.lemmas.Result.{IfOk-weaker}
use Rattle.text_lines.specs.Lines.{lines_of}
use Rattle.auditor_cli.specs.Audits.{PrintsListRead, ends_at_feed, read_more, list_state}
use Rattle.auditor_cli.proofs.ReadListLemmas.{IsSoFar, at_end, broken_off, ended_line, first_on, first_read, one_more, reported_of_line, unended_rest}
use Rattle.auditor_cli.proofs.audits.audit_opened.Goals as goal

pub returns-in-Err-clause-reads : goal.returns-in-Err-clause-reads
returns-in-Err-clause-reads g c =
    first_read c.args.asked.path.now (g.F.ReadFiles.reads c.args.files.now) c.loop.counter (g.F.ReadFiles.reads c.loop.files)
    (g.F.ReadFiles.reads c.read_line.new.self) (Err (error_kind c.in-Err.error))
    c.loop.invariant.2 c.in-Err.ensures.noted

pub returns-in-Err-clause-reported : goal.returns-in-Err-clause-reported
returns-in-Err-clause-reported g c =
    let path = c.args.asked.path.now in
    let errors = g.E.Write.contents c.loop.errors in
    let was = list_state (g.F.ReadFiles.reads c.args.files.now) (g.E.Write.contents c.args.errors.now) 0 in
    let next = list_state (g.F.ReadFiles.reads c.loop.files) errors c.loop.answered in
    let later = list_state (g.F.ReadFiles.reads c.read_line.new.self) errors c.loop.answered in
    let before = g.W.Write.contents c.args.output.now in
    let now = g.W.Write.contents c.loop.output in
    let after = g.W.Write.contents c.print_list_failure.new.output in
    let noted : later ≡ read_more (path, Err c.kind.result) next = ap (λ files. list_state files errors c.loop.answered)
    (c.in-Err.ensures.noted ∙ ap (λ kind. (path, Err kind) ∷ g.F.ReadFiles.reads c.loop.files) (sym c.kind.ensures)) in
    IfOk-weaker c.print_list_failure.result _ _
    (λ status reported. (
      c.loop.answered,
      broken_off c.args.asked.routes_alone c.args.asked.format path was before next later now after c.loop.greatest c.loop.invariant.0 c.kind.result status noted reported.0 reported.1,
    ))
    c.print_list_failure.ensures.reported

pub returns-in_err-status-clause-reads : goal.returns-in_err-status-clause-reads
returns-in_err-status-clause-reads g c =
    let was = g.F.ReadFiles.reads c.args.files.now in
    let later = g.F.ReadFiles.reads c.read_line.new.self in
    first_on c.args.asked.path.now was later (g.F.ReadFiles.reads c.audit_lines.new.files)
    (first_read c.args.asked.path.now was c.loop.counter (g.F.ReadFiles.reads c.loop.files) later (Ok c.in-Ok.line.items) c.loop.invariant.2 c.in-Ok.ensures.noted)
    c.audit_lines.ensures.reads

pub returns-then-not-ends_at_feed-clause-reads : goal.returns-then-not-ends_at_feed-clause-reads
returns-then-not-ends_at_feed-clause-reads g c =
    let was = g.F.ReadFiles.reads c.args.files.now in
    let later = g.F.ReadFiles.reads c.read_line.new.self in
    first_on c.args.asked.path.now was later (g.F.ReadFiles.reads c.audit_lines.new.files)
    (first_read c.args.asked.path.now was c.loop.counter (g.F.ReadFiles.reads c.loop.files) later (Ok c.in-Ok.line.items) c.loop.invariant.2 c.in-Ok.ensures.noted)
    c.audit_lines.ensures.reads

pub returns-then-not-ends_at_feed-clause-reported : goal.returns-then-not-ends_at_feed-clause-reported
returns-then-not-ends_at_feed-clause-reported g c =
    let a = c.args.asked.routes_alone in
    let k = c.args.asked.format in
    let path = c.args.asked.path.now in
    let line = c.in-Ok.line.items in
    let errors = g.E.Write.contents c.loop.errors in
    let noted = ap (λ files. list_state files errors c.loop.answered) c.in-Ok.ensures.noted in
    let reported = reported_of_line a k path _ _ _ _ _ line c.new-lines.result c.in_ok-status.status noted (c.new-lines.ensures.lines ∙ ap lines_of c.deref.ensures.value) c.in_ok-status.ensures.reported in
    let unended : ends_at_feed line ≡ false = search rules in (
      c.audit_lines.new.answered,
      subst (PrintsListRead a k path _ _ _ _) c.worse_status-greatest.ensures.value
          (at_end a k path _ _ _ _ _ _ c.loop.greatest c.loop.invariant.0 line c.in_ok-status.status (unended_rest line c.in-Ok.ensures.line unended) reported),
    )

pub loop-preserved : goal.loop-preserved
loop-preserved g c =
    let a = c.args.asked.routes_alone in
    let k = c.args.asked.format in
    let path = c.args.asked.path.now in
    let line = c.in-Ok.line.items in
    let errors = g.E.Write.contents c.loop.errors in
    let noted = ap (λ files. list_state files errors c.loop.answered) c.in-Ok.ensures.noted in
    let reported = reported_of_line a k path _ _ _ _ _ line c.new-lines.result c.in_ok-status.status noted (c.new-lines.ensures.lines ∙ ap lines_of c.deref.ensures.value) c.in_ok-status.ensures.reported in
    let is_ended : ends_at_feed line ≡ true = search rules in (
      subst (IsSoFar a k path _ _ _ _) c.worse_status-greatest.ensures.value
          (one_more a k path _ _ _ _ _ _ c.loop.greatest c.loop.invariant.0 line c.in_ok-status.status (ended_line line c.in-Ok.ensures.line is_ended) reported),
      c.worse_status-greatest.ensures.bound,
      inr (first_on path _ _ _ (first_read path _ c.loop.counter _ _ (Ok line) c.loop.invariant.2 c.in-Ok.ensures.noted) c.audit_lines.ensures.reads),
    )

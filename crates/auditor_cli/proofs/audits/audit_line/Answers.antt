-- Either the line names a pair, and its result is printed, or the line is bad.
use Rattle.std.proofs.Common.{codes, inr, refl, rules}
use Rattle.std.specs.Io.KnownBytes.{Appends}
use Rattle.std.proofs.lemmas.Result.{IfOk-weaker}
use Rattle.text_lines.specs.Lines.{with_line_feed}
use Rattle.auditor_cli.specs.Audits.{pair_text, list_state}
use Rattle.auditor_cli.proofs.ListLemmas.{paths_text, read_in_turn, reported_of_listed, reported_of_pair}
use Rattle.auditor_cli.proofs.audits.audit_line.Goals as goal

pub returns-in-None-clause-reported : goal.returns-in-None-clause-reported
returns-in-None-clause-reported g c = λ answered counted.
    IfOk-weaker c.print_bad_line_with_reason.result _ _
    (λ status reported. (
      with_line_feed (codes "bad line"),
      inr (c.in-None.ensures.0, inr (record { none = c.in-None.ensures.1; files = refl; noted = reported.2; counted = counted; text_is = refl; status_is = reported.0 })),
      reported.1,
    ))
    c.print_bad_line_with_reason.ensures

pub returns-clause-reported : goal.returns-clause-reported
returns-clause-reported g c = λ answered counted.
    let pair = c.in-Some.pair in
    let instance = pair.paths.instance.now in
    let solution = pair.paths.solution.now in
    let before = g.W.Write.contents c.args.output.now in
    let mid = g.W.Write.contents c.write.new.self in
    let wrote : Appends before mid (paths_text instance solution) = search rules in
    let was = list_state (g.F.ReadFiles.reads c.args.files.now) (g.E.Write.contents c.args.errors.now) answered in
    let now = list_state (g.F.ReadFiles.reads c.compare_files.new.files) (g.E.Write.contents c.compare_files.new.errors) c.args.number in
    IfOk-weaker c.compare_files.result _ _
    (λ status reported. (
      pair_text instance solution reported.0.0,
      reported_of_listed c.args.asked.routes_alone c.args.asked.format pair.paths.format c.in-Some.ensures.0 c.args.asked.path.now c.args.line.now instance solution
          pair.best c.in-Some.ensures.1 was now reported.0.0 status counted reported.0.1 reported.1,
      reported_of_pair instance solution reported.0.0 before mid _ wrote reported.0.2,
    )) c.compare_files.ensures.reported

pub returns-clause-reads : goal.returns-clause-reads
returns-clause-reads g c =
    read_in_turn c.in-Some.pair.paths.instance.now c.in-Some.pair.paths.solution.now (g.F.ReadFiles.reads c.args.files.now) (g.F.ReadFiles.reads c.compare_files.new.files) c.compare_files.ensures.reads

-- Each line adds its own result. After the last line, everything is printed.
use Rattle.std.proofs.Common.{◌≡◌, ◌∷◌, [], refl, rules, arith}
use Rattle.auditor_cli.specs.Audits.{IsAudited, list_state}
use Rattle.auditor_cli.proofs.ListLemmas.{all_reported, flushed, grown_twice, left_as, line_reported, nothing_reported, status_as}
use Rattle.auditor_cli.proofs.audits.audit_lines.Goals as goal

pub loop-line-init : goal.loop-line-init
loop-line-init g c =
    let before = g.W.Write.contents c.args.output.now in
    let was = list_state (g.F.ReadFiles.reads c.args.files.now) (g.E.Write.contents c.args.errors.now) c.args.answered.now in
    let is_told = IsAudited c.args.asked.routes_alone c.args.asked.format c.args.asked.path.now in
    let same : c.args.lines ≡ c.into_iter-line-iterator.result = search rules in
    (left_as _ _ _ _ was before c.args.lines c.into_iter-line-iterator.result 0 same (nothing_reported is_told c.args.lines was before), omega arith, ([], refl))

pub loop-line-preserved : goal.loop-line-preserved
loop-line-preserved g c =
    let before = g.W.Write.contents c.args.output.now in
    let now = g.W.Write.contents c.loop-line.output in
    let mid = g.W.Write.contents c.audit_line.new.output in
    let after = g.W.Write.contents c.flush.new.self in
    let was = list_state (g.F.ReadFiles.reads c.args.files.now) (g.E.Write.contents c.args.errors.now) c.args.answered.now in
    let next = list_state (g.F.ReadFiles.reads c.loop-line.files) (g.E.Write.contents c.loop-line.errors) c.loop-line.answered in
    let later = list_state (g.F.ReadFiles.reads c.audit_line.new.files) (g.E.Write.contents c.audit_line.new.errors) c.next_number-number.result in
    let is_told = IsAudited c.args.asked.routes_alone c.args.asked.format c.args.asked.path.now in
    let rest = c.next.new.self in
    let line = c.in-Some.line.now in
    let status = c.in_ok-status.status in
    let greatest = c.loop-line.greatest in
    let reported = c.in_ok-status.ensures.reported c.loop-line.answered c.next_number-number.ensures in
    let kept = flushed now mid after reported.0 reported.2 c.in_ok-flush.ensures.bytes in
    let step : c.loop-line.line-iterator ≡ line ∷ rest = search rules in (
      status_as _ _ _ _ later after rest _ c.worse_status-greatest.result c.worse_status-greatest.ensures.value
          (line_reported is_told c.args.lines was before next later now after line rest greatest status
          (left_as _ _ _ _ next now c.loop-line.line-iterator (line ∷ rest) greatest step c.loop-line.invariant.0) (reported.0, reported.1, kept)),
      c.worse_status-greatest.ensures.bound,
      grown_twice (g.F.ReadFiles.reads c.args.files.now) (g.F.ReadFiles.reads c.loop-line.files) (g.F.ReadFiles.reads c.audit_line.new.files) c.loop-line.invariant.2 c.audit_line.ensures.reads,
    )

pub returns-in_err-status-clause-reads : goal.returns-in_err-status-clause-reads
returns-in_err-status-clause-reads g c = grown_twice _ _ _ c.loop-line.invariant.2 c.audit_line.ensures.reads

pub returns-in_err-flush-clause-reads : goal.returns-in_err-flush-clause-reads
returns-in_err-flush-clause-reads g c = grown_twice _ _ _ c.loop-line.invariant.2 c.audit_line.ensures.reads

pub returns-clause-reported : goal.returns-clause-reported
returns-clause-reported g c =
    let now = g.W.Write.contents c.loop-line.output in
    let next = list_state (g.F.ReadFiles.reads c.loop-line.files) (g.E.Write.contents c.loop-line.errors) c.loop-line.answered in
    let none_left : c.loop-line.line-iterator ≡ [] = search rules in
    all_reported _ _ _ _ next now c.loop-line.greatest (left_as _ _ _ _ next now c.loop-line.line-iterator [] c.loop-line.greatest none_left c.loop-line.invariant.0)

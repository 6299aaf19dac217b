-- If a `.vrp` text is refused, its first fault is reported: of a line, of a section that is cut off, or of keys
-- that no line has.
use Rattle.std.proofs.Common.{sym, ◌∙◌}
use Rattle.std.proofs.lemmas.Result.{err_from_is_err_and, MatchResult-weaker}
use Rattle.instance_read.proofs.ReadVrpLemmas.{announced, spells_problem, tells_first, tells_missing, tells_truncated}
use Rattle.instance_read.proofs.vrp.read_vrp_scaled.Goals as goal

pub returns-in_err-draft-clause-fault : goal.returns-in_err-draft-clause-fault
returns-in_err-draft-clause-fault c =
    let p = err_from_is_err_and c.from_residual.result c.from_residual.ensures.1 in
    rw (p.1, p.2) (tells_first c.args.scale c.args.text.now c.new.result c.in_err-draft.field-0.0 c.new.ensures c.in_err-draft.ensures.err)

pub returns-then-is_inside-clause-fault : goal.returns-then-is_inside-clause-fault
returns-then-is_inside-clause-fault c =
    tells_truncated c.args.scale c.args.text.now c.new.result c.in_ok-draft.draft c.in_ok-draft.place c.new.ensures c.in_ok-draft.ensures.ok
    c.line_after.result (sym c.is_inside.ensures ∙ c.if-is_inside.true) c.line_after.ensures

pub returns-then-lacks_key-clause-fault : goal.returns-then-lacks_key-clause-fault
returns-then-lacks_key-clause-fault c =
    tells_missing c.args.scale c.args.text.now c.new.result c.in_ok-draft.draft c.in_ok-draft.place c.new.ensures c.in_ok-draft.ensures.ok
    c.end_line.result (sym c.is_inside.ensures ∙ c.if-is_inside.false) (sym c.lacks_key.ensures ∙ c.if-lacks_key.true) c.end_line.ensures

pub problem_of-requires-clause-announced : goal.problem_of-requires-clause-announced
problem_of-requires-clause-announced c =
    announced c.args.scale c.args.text.now c.new.result c.in_ok-draft.draft c.in_ok-draft.place c.new.ensures c.in_ok-draft.ensures.ok (sym c.lacks_key.ensures ∙ c.if-lacks_key.false)

pub returns-clause-value : goal.returns-clause-value
returns-clause-value c =
    MatchResult-weaker c.problem_of.result c.problem_of.ensures.ok
    (λ p h. spells_problem c.args.scale c.args.text.now c.new.result c.in_ok-draft.draft c.in_ok-draft.place c.new.ensures c.in_ok-draft.ensures.ok
    (sym c.is_inside.ensures ∙ c.if-is_inside.false) (sym c.lacks_key.ensures ∙ c.if-lacks_key.false) p h)
    (λ _ h. h)

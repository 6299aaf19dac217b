-- The result of opening the device after the check is also one for the device as it was before. The warning was
-- printed before the line with the number of steps.
use Rattle.std.proofs.lemmas.Result.{MatchResult-weaker, on_ok_weaker}
use Rattle.planner_cli.proofs.WarningLemmas.{at_ok, only_read, refused_first, unwarned, warned_before}
use Rattle.planner_cli.proofs.OpenLemmas.{opened_after, refused_after}
use Rattle.planner_cli.proofs.warned_opening.open_session_with_warning.Goals as goal

pub returns-in-Ok-clause-opens : goal.returns-in-Ok-clause-opens
returns-in-Ok-clause-opens g c =
    let read = c.check_integrity.new.device in
    let only = only_read _ c.args.device read c.in-Ok.doubts c.in-Ok.ensures.reads c.in-Ok.ensures.small in
    MatchResult-weaker c.open_session-reported.result.opened c.open_session-reported.ensures.opens
    (λ o following. opened_after _ c.args.device read 0 only o.session o.replayed following)
    (λ r following. refused_after _ c.args.device read 0 only r.1 r.0 following)

pub returns-in-Ok-clause-reported : goal.returns-in-Ok-clause-reported
returns-in-Ok-clause-reported g c =
    let read = c.check_integrity.new.device in
    let opening = c.open_session-reported in
    on_ok_weaker c.both.result
    (λ said. warned_before _ c.args.device read c.args.store.now c.in-Ok.doubts _ _ _ c.in-Ok.ensures.found (λ honest. (c.in-Ok.ensures.reads.kept honest).reads)
    (at_ok _ said.0 c.print_first_warning-warned.ensures) opening.result.opened opening.ensures.opens (at_ok _ said.1 opening.ensures.reported))
    c.both.ensures

pub returns-in-Err-clause-opens : goal.returns-in-Err-clause-opens
returns-in-Err-clause-opens g c =
    refused_first _ c.args.device c.check_integrity.new.device c.images_hold_at_most_one_state.ensures.never_both c.in-Err.fault c.in-Err.ensures.reads c.in-Err.ensures.small
    c.in-Err.ensures.fails c.in-Err.ensures.found (g.met.D.Sectors.reads_possible c.args.device)

pub returns-in-Err-clause-reported : goal.returns-in-Err-clause-reported
returns-in-Err-clause-reported g c = unwarned _ c.args.device c.check_integrity.new.device c.args.store.now c.in-Err.fault _ c.in-Err.ensures.found

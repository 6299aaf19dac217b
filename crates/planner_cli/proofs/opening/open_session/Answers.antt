-- The result of opening the device after the read is also one for the device as it was before. The line with the
-- number of steps was printed between the read and the opening.
use Rattle.std.proofs.Common.{inr, refl}
use Rattle.std.proofs.KnownBytes.{Appends-nil}
use Rattle.std.proofs.lemmas.Result.{MatchResult-weaker}
use Rattle.planner_cli.proofs.OpenLemmas.{failed_first, opened_after, refused_after}
use Rattle.planner_cli.proofs.opening.open_session.Goals as goal

pub returns-in-Ok-clause-opens : goal.returns-in-Ok-clause-opens
returns-in-Ok-clause-opens g c =
    let read = c.steps_to_replay.new.device in
    MatchResult-weaker c.open-opened.result c.open-opened.ensures
    (λ o following. opened_after _ c.args.device read c.in-Ok.steps c.in-Ok.ensures.reads o.session o.replayed following)
    (λ r following. refused_after _ c.args.device read c.in-Ok.steps c.in-Ok.ensures.reads r.1 r.0 following)

pub returns-in-Err-clause-opens : goal.returns-in-Err-clause-opens
returns-in-Err-clause-opens g c =
    failed_first _ c.args.device c.steps_to_replay.new.device c.images_hold_at_most_one_state.ensures.never_both c.in-Err.fault c.in-Err.ensures.reads c.in-Err.ensures.fails
    c.in-Err.ensures.found (g.met.D.Sectors.reads_possible c.args.device)

pub returns-in-Err-clause-reported : goal.returns-in-Err-clause-reported
returns-in-Err-clause-reported g c = record { steps = 0; reported = Appends-nil _; counts = λ honest. inr (refl, c.in-Err.ensures.found honest) }

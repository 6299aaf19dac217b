-- The result is that of opening the device.
use Rattle.std.proofs.Common.{sym}
use Rattle.std.proofs.lemmas.Result.{MatchResult-at_err, MatchResult-at_ok}
use Rattle.planner_cli.proofs.warned_opening.open_device_with_warning.Goals as goal

pub returns-in-Ok : goal.returns-in-Ok
returns-in-Ok g c = MatchResult-at_ok _ _ c.in-Ok.opened (sym c.in-Ok.ensures) c.open_session_with_warning-opening.ensures.opens

pub returns-in-Err : goal.returns-in-Err
returns-in-Err g c = MatchResult-at_err _ _ (c.in-Err.fault, c.in-Err.device) (sym c.in-Err.ensures) c.open_session_with_warning-opening.ensures.opens

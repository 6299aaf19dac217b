-- Three cases: the device holds a store that was made in it meanwhile, it holds no store, or opening fails.
use Rattle.std.proofs.Common.{◌∙◌, inl, sym}
use Rattle.std.proofs.lemmas.Result.{MatchResult-at_err, MatchResult-at_ok}
use Rattle.planner_cli.proofs.StoreLemmas.{found_bare}
use Rattle.planner_cli.proofs.new_file.open_in_new_file.Goals as goal

pub returns-in-Ok : goal.returns-in-Ok
returns-in-Ok g c = λ path made. record {
  device = c.args.device;
  ready = inl made;
  opens = MatchResult-at_ok _ _ c.in-Ok.opened (sym c.in-Ok.ensures) c.open_session-opening.ensures.opens;
}

pub returns-in-Err-NotFormatted-default : goal.returns-in-Err-NotFormatted-default
returns-in-Err-NotFormatted-default g c = λ path made.
    let refused = c.in-Err-NotFormatted-default in
    c.format_and_open.ensures path
    (found_bare _ _ c.args.device refused.device refused.field-0-0 made refused.field-0-0-is
    (MatchResult-at_err _ _ (refused.field-0-0, refused.device) (sym c.into_opened.ensures ∙ refused.is) c.open_session-opening.ensures.opens))

pub returns-in-Err : goal.returns-in-Err
returns-in-Err g c = λ path made. record {
  device = c.args.device;
  ready = inl made;
  refuses = MatchResult-at_err _ _ (c.in-Err.fault, c.in-Err.device) (sym c.into_opened.ensures ∙ c.in-Err.is) c.open_session-opening.ensures.opens;
}

-- A pickup that is too late by lower bounds on distances, or makes the next place late by more than 1, leaves
-- no pair that fits.
use Rattle.std.proofs.Common.{◌∙◌, sym}
use Rattle.slack_tables.proofs.TightLemmas.{closed-late}
use Rattle.slack_tables.proofs.closed.is_closed.Goals as goal

pub returns-in-LiLim : goal.returns-in-LiLim
returns-in-LiLim c = λ yes.
    (let places = c.args.places.now in
    let before = c.small_row-before in
    let next = c.small_row-next in
    closed-late c.args.limits places c.args.pickup.now c.args.i c.requires.tight c.detours_save_at_most_one.ensures c.in-LiLim.is
    before.result.now next.result.now c.args.near.to c.args.near.from before.ensures.place next.ensures.place c.requires.to
    c.requires.from
    (sym c.makes_late.ensures ∙ yes))

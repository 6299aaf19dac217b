-- Starts do not decrease from place to place. So no place after one that starts after the pickup's latest time
-- takes the pickup.
use Rattle.std.proofs.Common.{◌≡◌, ◌∙◌, false, sym, subst}
use Rattle.std.proofs.lemmas.Bool.{not-true}
use Rattle.slack_tables.specs.DriveSteps.{is_in_time}
use Rattle.slack_tables.proofs.TightLemmas.{closed-past}
use Rattle.slack_tables.proofs.closed.is_past.Goals as goal

pub returns : goal.returns
returns c = λ yes.
    closed-past c.args.limits c.args.places.now c.args.pickup.now c.args.i c.small_row-before.result.now c.requires.ascending
    c.requires.from_one c.small_row-before.ensures.place
    (subst (λ n. is_in_time c.args.limits.kind c.small_row-before.result.now.at.start n ≡ false) c.from.ensures
    (sym c.is_in_time.ensures ∙ not-true c.is_in_time.result yes))

-- Every price is below the greatest number, so the distance that a stop adds between two places is what the
-- single adds there.
use Rattle.std.proofs.Common.{◌∙◌, ◌-◌, get_or, ap, arith}
use Rattle.slack_tables.specs.Ride.{ride_of}
use Rattle.slack_tables.specs.declared.progress.PlaceSlack.{PlaceSlack}
use Rattle.slack_tables.specs.declared.ride.Ride.{Ride}
use Rattle.slack_tables.proofs.WalkLemmas.{price_if_feasible-any}
use Rattle.slack_tables.proofs.insertion.added_by_single.Goals as goal

pub returns : goal.returns
returns c = λ d.
    (let before = c.small_row-before.ensures.place d in
    let far = ap (λ (r : Ride). r.distance) c.ride_of.ensures in
    c.price_below.ensures
    ∙ price_if_feasible-any c.args.limits (get_or c.args.places.now (c.args.i - 1) d).at c.args.stop.now
    (get_or c.args.places.now c.args.i d) _ _ _ _ _ (c.ride_of.ensures ∙ ap (λ (e : PlaceSlack). ride_of e.at) before)
    (ap (λ (e : PlaceSlack). e.at.stop.service) before) (c.leg_at.ensures.value d) (c.leg_at-2.ensures.value d)
    (c.small_row-tail.ensures.place d) (omega arith))

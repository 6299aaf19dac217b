-- If a lower bound on the price is at least `below`, the price is too. Otherwise the price is computed: the
-- distance that the single adds here.
use Rattle.std.proofs.Common.{◌≡◌, ◌∙◌, ◌-◌, ◌≤ℤ◌, w64, rules, get_or, arith, subst, ap}
use mir.Val.{SFits}
use Rattle.std.proofs.lemmas.Int.{ints, to_z-of_z}
use Rattle.nint_dist.specs.Distance.{distance}
use Rattle.slack_tables.specs.Ride.{ride_of, price, price_below}
use Rattle.slack_tables.specs.declared.progress.PlaceSlack.{PlaceSlack}
use Rattle.slack_tables.specs.declared.ride.Ride.{Ride}
use Rattle.slack_tables.proofs.DetourLemmas.{price_if_feasible-dear}
use Rattle.slack_tables.proofs.scan.single_at.Goals as goal

pub returns-then-price-below : goal.returns-then-price-below
returns-then-price-below c = λ d.
    (let places = c.args.places.now in
    let stop = c.args.stop.now in
    let below : SFits w64 c.args.below = record { sfits = c.ranges.below.sfits } in
    let fits : SFits w64 c.price.result = search rules in
    let start = ap (λ (r : Ride). r.distance) c.ride_of-ride.ensures in
    let before = ap (λ (e : PlaceSlack). e.at.distance) (c.small_row-before.ensures.place d) in
    let end = ap (λ (e : PlaceSlack). e.at.distance) (c.small_row-tail.ensures.place d) in
    let dear : c.args.below
    ≤ℤ price (ride_of (get_or places (c.args.i - 1) d).at) c.args.near.to c.args.near.from (get_or places c.args.i d) =
    omega (arith, ints) in
    price_if_feasible-dear c.args.below c.args.limits (ride_of (get_or places (c.args.i - 1) d).at)
    (get_or places (c.args.i - 1) d).at.stop.service (distance (get_or places (c.args.i - 1) d).at.stop stop) stop
    (distance (get_or places c.args.i d).at.stop stop) (get_or places c.args.i d) c.args.near.to c.args.near.from (c.requires.near.to d)
    (c.requires.near.from d) dear)

pub returns-then-price-below-2 : goal.returns-then-price-below-2
returns-then-price-below-2 c = λ d.
    (let places = c.args.places.now in
    let stop = c.args.stop.now in
    let below : SFits w64 c.args.below = record { sfits = c.ranges.below.sfits } in
    let value = c.price-2.ensures in
    let fits : SFits w64 c.price-2.result = search rules in
    let start = ap (λ (r : Ride). r.distance) c.ride_of-ride.ensures in
    let before = ap (λ (e : PlaceSlack). e.at.distance) (c.small_row-before.ensures.place d) in
    let end = ap (λ (e : PlaceSlack). e.at.distance) (c.small_row-tail.ensures.place d) in
    let dear : c.args.below
    ≤ℤ price (ride_of (get_or places (c.args.i - 1) d).at) c.leg_lower_bound.result c.leg_lower_bound-2.result (get_or places c.args.i d) =
    omega (arith, ints) in
    price_if_feasible-dear c.args.below c.args.limits (ride_of (get_or places (c.args.i - 1) d).at)
    (get_or places (c.args.i - 1) d).at.stop.service (distance (get_or places (c.args.i - 1) d).at.stop stop) stop
    (distance (get_or places c.args.i d).at.stop stop) (get_or places c.args.i d) c.leg_lower_bound.result c.leg_lower_bound-2.result
    (c.leg_lower_bound.ensures.value d) (c.leg_lower_bound-2.ensures.value d) dear)

pub returns : goal.returns
returns c = λ d.
    (let here = c.small_row-before.result.now in
    let next = c.small_row-tail.result.now in
    let places = c.args.places.now in
    let stop = c.args.stop.now in
    let below : SFits w64 c.args.below = record { sfits = c.ranges.below.sfits } in
    let raw =
    subst (λ x. c.price_below.result
    ≡ price_below x c.args.limits c.ride_of-ride.result here.at.stop.service c.leg_at.result stop c.leg_at-2.result next)
    (to_z-of_z w64 c.args.below below) c.price_below.ensures in
    let ride = ap (λ r. price_below c.args.below c.args.limits r here.at.stop.service c.leg_at.result stop c.leg_at-2.result next) c.ride_of-ride.ensures in
    let to = ap (λ n. price_below c.args.below c.args.limits (ride_of here.at) here.at.stop.service n stop c.leg_at-2.result next)
    (c.leg_at.ensures.value d) in
    let from =
    ap (λ n. price_below c.args.below c.args.limits (ride_of here.at) here.at.stop.service
    (distance (get_or places (c.args.i - 1) d).at.stop stop) stop n next)
    (c.leg_at-2.ensures.value d) in
    let before =
    ap (λ (e : PlaceSlack). price_below c.args.below c.args.limits (ride_of e.at) e.at.stop.service
    (distance (get_or places (c.args.i - 1) d).at.stop stop) stop (distance (get_or places c.args.i d).at.stop stop) next)
    (c.small_row-before.ensures.place d) in
    let tail =
    ap (λ (e : PlaceSlack). price_below c.args.below c.args.limits (ride_of (get_or places (c.args.i - 1) d).at)
    (get_or places (c.args.i - 1) d).at.stop.service (distance (get_or places (c.args.i - 1) d).at.stop stop) stop
    (distance (get_or places c.args.i d).at.stop stop) e)
    (c.small_row-tail.ensures.place d) in
    raw ∙ (ride ∙ (to ∙ (from ∙ (before ∙ tail)))))

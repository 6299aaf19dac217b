-- By lower bounds, the delivery directly after the pickup and each later one add at least the bound.
use Rattle.std.proofs.Common.{w64}
use mir.Val.{SFits}
use Rattle.slack_tables.proofs.DetourLemmas.{all-dear}
use Rattle.slack_tables.proofs.ScanLemmas.{bits-below}
use Rattle.slack_tables.proofs.scan.are_too_expensive.Goals as goal

pub returns : goal.returns
returns c = λ yes j x d following last some.
    (let scan = c.requires.scan in
    let before = c.small_row-before in
    let next = c.small_row-next in
    let trip = c.args.trip.now in
    let places = c.args.places.now in
    let below : SFits w64 c.args.below = record { sfits = c.ranges.below.sfits } in
    let near = bits-below c.args.below _ below (c.is_too_expensive.ensures.near yes) in
    let apart = bits-below c.args.below _ below (c.is_too_expensive.ensures.apart yes) in
    all-dear trip.limits places trip.pickup trip.delivery c.args.i d scan.over.linked c.args.least.now scan.least c.args.below
    before.result.now next.result.now c.args.near.to trip.between_stops c.leg_lower_bound-from.result c.args.near.from
    (c.is_too_expensive.ensures.within yes) (before.ensures.place d) (next.ensures.place d) (c.requires.near.to d) scan.over.trip.between_stops
    (c.leg_lower_bound-from.ensures.value d) (c.requires.near.from d) near apart j x following last some)

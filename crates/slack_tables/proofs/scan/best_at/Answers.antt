-- If all deliveries add at least the bound, or the pickup breaks a limit, none adds less than the bound.
-- Otherwise the vehicle continues from the pickup.
use Rattle.std.proofs.Common.{◌∙◌, w64, refl, subst, sym, ap}
use mir.Val.{SFits}
use Rattle.std.proofs.lemmas.Int.{to_z-of_z}
use Rattle.std.proofs.lemmas.Option.{none-some}
use Rattle.nint_dist.specs.Distance.{distance}
use Rattle.slack_tables.specs.Best.{IsFirstOf}
use Rattle.slack_tables.specs.Scan.{AddsDelivery, AreTooExpensive}
use Rattle.slack_tables.specs.declared.progress.PlaceSlack.{PlaceSlack}
use Rattle.slack_tables.proofs.ScanLemmas.{deliveries-none}
use Rattle.slack_tables.proofs.WalkLemmas.{underway-begin, not-of_first_stop}
use Rattle.slack_tables.proofs.scan.best_at.Goals as goal

pub best_delivery-requires-clause-underway : goal.best_delivery-requires-clause-underway
best_delivery-requires-clause-underway c = λ d.
    (let before = c.small_row-before in
    let trip = c.args.trip.now in
    let places = c.args.places.now in
    underway-begin trip.limits places trip.pickup trip.delivery c.args.i d trip before.result.now c.leg_at-to.result
    c.leg_at-onward.result refl refl
    (before.ensures.place d)
    (c.leg_at-to.ensures.value d
    ∙ ap (λ (e : PlaceSlack). distance e.at.stop trip.pickup)
    (sym (before.ensures.place d))) c.in-Some.first refl c.requires.scan.over.trip.between_stops
    (c.leg_at-onward.ensures.value d) (sym c.in-Some.is ∙ c.pick_up.ensures.value))

pub returns-then-are_too_expensive : goal.returns-then-are_too_expensive
returns-then-are_too_expensive c = λ d.
    (let trip = c.args.trip.now in
    let places = c.args.places.now in
    let below : SFits w64 c.args.below = record { sfits = c.ranges.below.sfits } in
    let dear = subst (λ x. AreTooExpensive trip.limits places trip.pickup trip.delivery c.args.i x) (to_z-of_z w64 c.args.below below)
    (c.are_too_expensive.ensures c.if-are_too_expensive.true) in
    deliveries-none trip.limits places trip.pickup trip.delivery c.args.i d c.args.below (λ j x following last some. dear j x d following last some))

pub returns-in_default : goal.returns-in_default
returns-in_default c = λ d.
    (let before = c.small_row-before in
    let trip = c.args.trip.now in
    let places = c.args.places.now in
    deliveries-none trip.limits places trip.pickup trip.delivery c.args.i d c.args.below (λ j x following last some.
    (let never = not-of_first_stop trip.limits places trip.pickup trip.delivery c.args.i d trip before.result.now c.leg_at-to.result
    c.leg_at-onward.result refl refl
    (before.ensures.place d)
    (c.leg_at-to.ensures.value d ∙ ap (λ (e : PlaceSlack). distance e.at.stop trip.pickup) (sym (before.ensures.place d)))
    (sym c.in_default.is ∙ c.pick_up.ensures.value) j following last in
    absurd (none-some x (sym never ∙ some)))))

pub returns : goal.returns
returns c = λ d.
    (let trip = c.args.trip.now in
    let places = c.args.places.now in
    let below : SFits w64 c.args.below = record { sfits = c.ranges.below.sfits } in
    subst (λ x. IsFirstOf (AddsDelivery trip.limits places trip.pickup trip.delivery c.args.i x d) c.best_delivery.result)
    (to_z-of_z w64 c.args.below below) (c.best_delivery.ensures d))

-- The delivery here is offered. The best so far is final past the delivery's latest time, after a broken limit
-- or the last place, and if the later deliveries add at least the bound.
use Rattle.std.proofs.Common.{false, ◌≡◌, ◌∙◌, ◌+◌, ◌-◌, w64, rules, arith, subst, sym, ap}
use mir.Val.{SFits}
use Rattle.std.proofs.lemmas.Int.{to_z-of_z}
use Rattle.std.proofs.lemmas.Option.{none-some}
use Rattle.nint_dist.specs.Distance.{distance}
use Rattle.slack_tables.specs.Best.{IsFirstOf}
use Rattle.slack_tables.specs.Ride.{price_below}
use Rattle.slack_tables.specs.Scan.{AddsDelivery, offered}
use Rattle.slack_tables.specs.declared.progress.PlaceSlack.{PlaceSlack}
use Rattle.slack_tables.proofs.DetourLemmas.{first-reach, dear-following}
use Rattle.slack_tables.proofs.ScanLemmas.{deliveries-begin, delivery-more, deliveries-stop, bits-below}
use Rattle.slack_tables.proofs.WalkLemmas.{underway-more, near-more, near-small, not-last, over, offered-here}
use Rattle.slack_tables.specs.DriveSteps.{is_in_time}
use Rattle.slack_tables.proofs.LateLemmas.{late-delivery}
use Rattle.slack_tables.proofs.scan.best_delivery.Goals as goal

pub loop-j-init : goal.loop-j-init
loop-j-init c = record {
  order = omega arith;
  within = omega arith;
  best = λ d.
      deliveries-begin c.args.trip.now.limits c.args.places.now c.args.trip.now.pickup c.args.trip.now.delivery c.args.i d _
      _ c.none_below-best.ensures;
  underway = c.requires.underway;
  near = c.requires.near;
}

pub price_below-distance-requires-clause-at : goal.price_below-distance-requires-clause-at
price_below-distance-requires-clause-at c =
    let within = c.loop-j.invariant.within in
    (near-small c.args.places.now c.loop-j.j c.small_row-tail.result.now c.loop-j.on c.requires.scan.over.small c.requires.scan.over.few
    (omega arith) within (c.loop-j.invariant.near c.small_row-tail.result.now)).0

pub advance-requires-clause-ride : goal.advance-requires-clause-ride
advance-requires-clause-ride c =
    let within = c.loop-j.invariant.within in
    let small = (near-small c.args.places.now c.loop-j.j c.small_row-tail.result.now c.loop-j.on c.requires.scan.over.small
    c.requires.scan.over.few
    (omega arith) within (c.loop-j.invariant.near c.small_row-tail.result.now)).0 in
    let start = small.start in
    let load = small.load in
    record { start = omega arith; load = omega arith; distance = omega arith }

pub advance-requires-clause-onward : goal.advance-requires-clause-onward
advance-requires-clause-onward c =
    let within = c.loop-j.invariant.within in
    let onward = (near-small c.args.places.now c.loop-j.j c.small_row-tail.result.now c.loop-j.on c.requires.scan.over.small
    c.requires.scan.over.few
    (omega arith) within (c.loop-j.invariant.near c.small_row-tail.result.now)).1 in
    omega arith

pub overflow_add-reach : goal.overflow_add-reach
overflow_add-reach c =
    let near =
    near-small c.args.places.now
    (c.args.i + 1) c.small_row-next.result.now c.args.first c.requires.scan.over.small c.requires.scan.over.few (omega arith)
    (omega arith) (c.requires.near c.small_row-next.result.now) in
    search rules

pub cannot_improve-requires-clause-reach : goal.cannot_improve-requires-clause-reach
cannot_improve-requires-clause-reach c =
    let near =
    near-small c.args.places.now
    (c.args.i + 1) c.small_row-next.result.now c.args.first c.requires.scan.over.small c.requires.scan.over.few (omega arith)
    (omega arith) (c.requires.near c.small_row-next.result.now) in
    omega arith

pub returns-then-cannot_improve : goal.returns-then-cannot_improve
returns-then-cannot_improve c = λ d.
    (let on = c.loop-j.on in
    let tail = c.small_row-tail.result.now in
    let trip = c.args.trip.now in
    let places = c.args.places.now in
    let within = c.loop-j.invariant.within in
    let order = c.loop-j.invariant.order in
    let bound : SFits w64 c.loop-j.best.bound = search rules in
    let price_if_feasible =
    subst (λ x. c.price_below-distance.result
    ≡ price_below x trip.limits on.ride on.service on.to_delivery trip.delivery c.leg_at.result tail)
    (to_z-of_z w64 c.loop-j.best.bound bound) c.price_below-distance.ensures in
    let below : SFits w64 c.args.below = record { sfits = c.ranges.below.sfits } in
    let so = delivery-more trip.limits places trip.pickup trip.delivery c.args.i d _ c.loop-j.j c.loop-j.best
    (c.loop-j.invariant.best d) order within c.offer.new.self
    (offered-here trip.limits places trip.pickup trip.delivery c.args.i d c.loop-j.j on order within
    (c.loop-j.invariant.underway d) c.loop-j.best c.offer.new.self tail c.leg_at.result (c.small_row-tail.ensures.place d)
    (c.leg_at.ensures.value d ∙ ap (λ (e : PlaceSlack). distance e.at.stop trip.delivery) (sym (c.small_row-tail.ensures.place d)))
    (c.offer.ensures ∙ ap (λ o. offered c.loop-j.best o c.args.i c.loop-j.j) price_if_feasible)) in
    let dear = bits-below c.offer.new.self.bound _ (search rules) (c.cannot_improve.ensures.expensive c.if-cannot_improve.true) in
    let rest = dear-following trip.limits places trip.pickup trip.delivery c.args.i d c.requires.scan.over.linked c.args.least.now
    c.requires.scan.least c.offer.new.self.bound
    (c.loop-j.j - 1) _ _ (omega arith) (c.cannot_improve.ensures.within c.if-cannot_improve.true)
    (let far = first-reach trip.limits places trip.pickup trip.delivery c.args.i d c.requires.scan.over.linked c.args.first
    (c.requires.underway d) in
    omega arith)
    (ap (λ (e : PlaceSlack). e.at.distance) (c.small_row-next.ensures.place d)) dear in
    subst (λ x. IsFirstOf (AddsDelivery trip.limits places trip.pickup trip.delivery c.args.i x d) c.offer.new.self.found) (to_z-of_z w64 c.args.below below)
    (deliveries-stop trip.limits places trip.pickup trip.delivery c.args.i d _ (c.loop-j.j + 1) c.offer.new.self so
    (λ k x h l some. rest k x (omega arith) l some)))

pub returns-in_default : goal.returns-in_default
returns-in_default c = λ d.
    (let on = c.loop-j.on in
    let tail = c.small_row-tail.result.now in
    let trip = c.args.trip.now in
    let places = c.args.places.now in
    let within = c.loop-j.invariant.within in
    let order = c.loop-j.invariant.order in
    let bound : SFits w64 c.loop-j.best.bound = search rules in
    let price_if_feasible =
    subst (λ x. c.price_below-distance.result
    ≡ price_below x trip.limits on.ride on.service on.to_delivery trip.delivery c.leg_at.result tail)
    (to_z-of_z w64 c.loop-j.best.bound bound) c.price_below-distance.ensures in
    let below : SFits w64 c.args.below = record { sfits = c.ranges.below.sfits } in
    let so = delivery-more trip.limits places trip.pickup trip.delivery c.args.i d _ c.loop-j.j c.loop-j.best
    (c.loop-j.invariant.best d) order within c.offer.new.self
    (offered-here trip.limits places trip.pickup trip.delivery c.args.i d c.loop-j.j on order within
    (c.loop-j.invariant.underway d) c.loop-j.best c.offer.new.self tail c.leg_at.result (c.small_row-tail.ensures.place d)
    (c.leg_at.ensures.value d ∙ ap (λ (e : PlaceSlack). distance e.at.stop trip.delivery) (sym (c.small_row-tail.ensures.place d)))
    (c.offer.ensures ∙ ap (λ o. offered c.loop-j.best o c.args.i c.loop-j.j) price_if_feasible)) in
    let rest = over trip.limits places trip.pickup trip.delivery c.args.i d c.loop-j.j on order within
    (c.loop-j.invariant.underway d) c.leg_at.result (sym c.in_default.is ∙ c.advance.ensures.value d) in
    subst (λ x. IsFirstOf (AddsDelivery trip.limits places trip.pickup trip.delivery c.args.i x d) c.offer.new.self.found) (to_z-of_z w64 c.args.below below)
    (deliveries-stop trip.limits places trip.pickup trip.delivery c.args.i d _ (c.loop-j.j + 1) c.offer.new.self so
    (λ k x h l some. absurd (none-some x (sym (rest k (omega arith) l) ∙ some)))))

pub loop-j-preserved : goal.loop-j-preserved
loop-j-preserved c =
    let on = c.loop-j.on in
    let tail = c.small_row-tail.result.now in
    let trip = c.args.trip.now in
    let places = c.args.places.now in
    let within = c.loop-j.invariant.within in
    let order = c.loop-j.invariant.order in
    let bound : SFits w64 c.loop-j.best.bound = search rules in
    let price_if_feasible =
    subst (λ x. c.price_below-distance.result
    ≡ price_below x trip.limits on.ride on.service on.to_delivery trip.delivery c.leg_at.result tail)
    (to_z-of_z w64 c.loop-j.best.bound bound) c.price_below-distance.ensures in
    record {
      order = omega arith;
      within =
          let more = not-last trip.limits places trip.pickup trip.delivery c.args.i tail c.loop-j.j on order within c.leg_at.result c.in-Some.next
          (sym c.in-Some.is ∙ c.advance.ensures.value tail) in
          omega arith;
      best = λ d.
          delivery-more trip.limits places trip.pickup trip.delivery c.args.i d _ c.loop-j.j c.loop-j.best
          (c.loop-j.invariant.best d) order within c.offer.new.self
          (offered-here trip.limits places trip.pickup trip.delivery c.args.i d c.loop-j.j on order within
          (c.loop-j.invariant.underway d) c.loop-j.best c.offer.new.self tail c.leg_at.result (c.small_row-tail.ensures.place d)
          (c.leg_at.ensures.value d ∙ ap (λ (e : PlaceSlack). distance e.at.stop trip.delivery) (sym (c.small_row-tail.ensures.place d)))
          (c.offer.ensures ∙ ap (λ o. offered c.loop-j.best o c.args.i c.loop-j.j) price_if_feasible));
      underway = λ d.
          underway-more trip.limits places trip.pickup trip.delivery c.args.i d c.loop-j.j on order within
          (c.loop-j.invariant.underway d) c.requires.scan.over.linked c.requires.from_one c.leg_at.result c.in-Some.next
          (c.leg_at.ensures.value d) (sym c.in-Some.is ∙ c.advance.ensures.value d);
      near = λ d.
          near-more trip.limits places trip.pickup trip.delivery c.args.i d c.loop-j.j on order within
          (c.loop-j.invariant.near d) c.requires.scan.over.linked c.requires.from_one c.leg_at.result c.in-Some.next c.leg_at.ensures.bound
          (sym c.in-Some.is ∙ c.advance.ensures.value d) c.in-Some.ensures.near;
    }

pub returns-then-not-is_in_time : goal.returns-then-not-is_in_time
returns-then-not-is_in_time c = λ d.
    (let on = c.loop-j.on in
    let trip = c.args.trip.now in
    let places = c.args.places.now in
    let within = c.loop-j.invariant.within in
    let order = c.loop-j.invariant.order in
    let below : SFits w64 c.args.below = record { sfits = c.ranges.below.sfits } in
    let late : is_in_time trip.limits.kind on.ride.start trip.delivery.latest ≡ false =
    subst (λ n. is_in_time trip.limits.kind on.ride.start n ≡ false) c.from-latest.ensures
    (sym c.is_in_time.ensures ∙ c.if-not-is_in_time.true) in
    subst (λ x. IsFirstOf (AddsDelivery trip.limits places trip.pickup trip.delivery c.args.i x d) c.loop-j.best.found) (to_z-of_z w64 c.args.below below)
    (deliveries-stop trip.limits places trip.pickup trip.delivery c.args.i d _ c.loop-j.j c.loop-j.best (c.loop-j.invariant.best d)
    (λ k x h l some. absurd (none-some x
    (sym (late-delivery trip.limits places trip.pickup trip.delivery c.args.i d c.loop-j.j k order h l _
    (c.loop-j.invariant.underway d).walk late)
    ∙ some)))))

-- Each ride to the next place with the pickup on board is a step of the trip. If a ride breaks a limit, the
-- result is `None`; otherwise it is the distance that the delivery adds.
use Rattle.std.proofs.Common.{◌≡◌, ◌∙◌, ◌+◌, ◌-◌, get_or, refl, sym, ap, arith, subst, Some}
use Rattle.std.specs.Option.{option_map}
use Rattle.nint_dist.specs.Distance.{distance}
use Rattle.slack_tables.specs.Ride.{ride_at, ridden, IsNearRide}
use Rattle.slack_tables.specs.Walk.{walk_to}
use Rattle.slack_tables.specs.declared.progress.PlaceSlack.{PlaceSlack}
use Rattle.slack_tables.proofs.WalkLemmas.{distance-back, first-ride, next-ride, pair-over, pair-price_if_feasible, price_if_feasible-any}
use Rattle.slack_tables.proofs.insertion.added_by_pair.Goals as goal

pub loop-k-init : goal.loop-k-init
loop-k-init c =
    let limits = c.args.limits in
    let places = c.args.places.now in
    let pickup = c.args.pickup.now in
    record {
      walk = λ d.
          (let before = c.small_row.ensures.place d in
          first-ride limits places pickup c.args.i d _ _ _ before
          (c.leg_at-to.ensures.value d ∙ ap (λ (e : PlaceSlack). distance e.at.stop pickup) (sym before))
          (c.ride_on.ensures.value
          ∙ ap (λ r. ridden limits r c.small_row.result.now.at.stop.service c.leg_at-to.result pickup) c.ride_of.ensures)
          ∙ ap (λ o. option_map (λ r. ride_at r pickup) o) c.in_ok-ride.was);
      visit = c.requires.pickup;
      near =
          let small = c.small_row.ensures.small.at in
          let start = small.start in
          let load = small.load in
          let near = subst (λ r. IsNearRide r c.leg_at-to.result c.in_ok-ride.ride) c.ride_of.ensures c.in_ok-ride.ensures.near in
          record { start = omega arith; load = omega arith; distance = omega arith };
    }

pub returns-in_err-ride : goal.returns-in_err-ride
returns-in_err-ride c = λ d.
    (let limits = c.args.limits in
    let places = c.args.places.now in
    let pickup = c.args.pickup.now in
    let before = c.small_row.ensures.place d in
    let never = first-ride limits places pickup c.args.i d _ _ _ before
    (c.leg_at-to.ensures.value d ∙ ap (λ (e : PlaceSlack). distance e.at.stop pickup) (sym before))
    (c.ride_on.ensures.value
    ∙ ap (λ r. ridden limits r c.small_row.result.now.at.stop.service c.leg_at-to.result pickup) c.ride_of.ensures)
    ∙ ap (λ o. option_map (λ r. ride_at r pickup) o) c.in_err-ride.was in
    c.from_residual.ensures
    ∙ sym (pair-over limits places pickup c.args.i d c.args.delivery.now (c.args.i + 1) c.args.j (omega arith)
    (omega arith) c.requires.within never))

pub loop-k-preserved : goal.loop-k-preserved
loop-k-preserved c =
    let limits = c.args.limits in
    let places = c.args.places.now in
    let pickup = c.args.pickup.now in
    let next = c.small_row-in-loop-k.result.now in
    record {
      walk = λ d.
          (let place = c.small_row-in-loop-k.ensures.place d in
          next-ride limits places pickup c.args.i d (c.loop-k.k + 1) c.loop-k.ride c.loop-k.stop next _ _ (omega arith) (omega arith)
          (c.loop-k.invariant.walk d) (place ∙ ap (λ k. get_or places k d) (omega arith))
          (c.leg_at.ensures.value d
          ∙ (ap (λ (e : PlaceSlack). distance e.at.stop c.loop-k.stop) (sym place)
          ∙ distance-back c.small_row-in-loop-k.result.now.at.stop c.loop-k.stop)) c.ride_on-in-loop-k.ensures.value
          ∙ ap (λ o. option_map (λ r. ride_at r c.small_row-in-loop-k.result.now.at.stop) o) c.in_ok-ride-2.was);
      visit = c.small_row-in-loop-k.ensures.small.at.visit;
      near =
          let before = c.loop-k.invariant.near in
          let start = before.start in
          let load = before.load in
          let near = c.in_ok-ride-2.ensures.near in
          record { start = omega arith; load = omega arith; distance = omega arith };
    }

pub returns-in_err-ride-2 : goal.returns-in_err-ride-2
returns-in_err-ride-2 c = λ d.
    (let limits = c.args.limits in
    let places = c.args.places.now in
    let pickup = c.args.pickup.now in
    let place = c.small_row-in-loop-k.ensures.place d in
    let never = next-ride limits places pickup c.args.i d
    (c.loop-k.k + 1) c.loop-k.ride c.loop-k.stop c.small_row-in-loop-k.result.now _ _ (omega arith) (omega arith)
    (c.loop-k.invariant.walk d) (place ∙ ap (λ k. get_or places k d) (omega arith))
    (c.leg_at.ensures.value d
    ∙ (ap (λ (e : PlaceSlack). distance e.at.stop c.loop-k.stop) (sym place)
    ∙ distance-back c.small_row-in-loop-k.result.now.at.stop c.loop-k.stop)) c.ride_on-in-loop-k.ensures.value
    ∙ ap (λ o. option_map (λ r. ride_at r c.small_row-in-loop-k.result.now.at.stop) o) c.in_err-ride-2.was in
    c.from_residual-in_err-ride-2.ensures
    ∙ sym (pair-over limits places pickup c.args.i d c.args.delivery.now (c.loop-k.k + 1 + 1) c.args.j (omega arith)
    (omega arith) c.requires.within never))

pub returns : goal.returns
returns c = λ d.
    (let limits = c.args.limits in
    let places = c.args.places.now in
    let pickup = c.args.pickup.now in
    let order = c.requires.order in
    let walk = subst (λ j. walk_to limits places pickup c.args.i d j ≡ Some (ride_at c.loop-k.ride c.loop-k.stop)) (omega arith) (c.loop-k.invariant.walk d) in
    let way = c.from.ensures ∙ c.dist.ensures.value in
    c.price_below.ensures
    ∙ (price_if_feasible-any limits (ride_at c.loop-k.ride c.loop-k.stop) c.args.delivery.now
    (get_or places (c.args.j - 1) d) _ _ _ _ _ refl refl way (c.leg_at-2.ensures.value d) (c.small_row-tail.ensures.place d)
    (omega arith)
    ∙ sym (pair-price_if_feasible limits places pickup c.args.i d c.args.delivery.now c.args.j c.loop-k.ride c.loop-k.stop walk)))

-- The best insertion with the pickup at the next place is recorded. From a place past the pickup's latest time
-- on no pair fits.
use Rattle.std.proofs.Common.{w64, rules, arith, subst, ◌-◌, ◌≤◌, get_or}
use mir.Val.{SFits}
use Rattle.std.proofs.lemmas.Int.{to_z-of_z}
use Rattle.nint_dist.specs.Distance.{distance}
use Rattle.slack_tables.specs.Best.{IsFirstOf}
use Rattle.slack_tables.specs.Scan.{AddsPair, AddsDelivery}
use Rattle.slack_tables.proofs.ScanLemmas.{pairs-begin, pair-more, pairs-end, pairs-stop}
use Rattle.slack_tables.proofs.scan.best_from.Goals as goal

pub loop-i-init : goal.loop-i-init
loop-i-init c = record {
  following = omega arith;
  to = c.leg_lower_bound-to.ensures.value;
  bound = c.leg_lower_bound-to.ensures.bound;
  best = λ d.
      pairs-begin c.args.trip.now.limits c.args.places.now c.args.trip.now.pickup c.args.trip.now.delivery
      (c.args.first - 1) d _ c.args.first _ (let one = c.requires.from_one in omega arith) c.none_below-best.ensures;
}

pub loop-i-preserved : goal.loop-i-preserved
loop-i-preserved c =
    let trip = c.args.trip.now in
    let places = c.args.places.now in
    let bound : SFits w64 c.loop-i.best.bound = search rules in
    let following = c.loop-i.invariant.following in
    record {
      following = omega arith;
      to = λ d. subst (λ k. c.leg_lower_bound-from.result ≤ distance (get_or places k d).at.stop trip.pickup) (omega arith) (c.leg_lower_bound-from.ensures.value d);
      bound = c.leg_lower_bound-from.ensures.bound;
      best = λ d.
          pair-more trip.limits places trip.pickup trip.delivery (c.args.first - 1) d _ c.loop-i.i c.loop-i.best
          (c.loop-i.invariant.best d) _ _ (omega arith)
          (subst (λ x. IsFirstOf (AddsDelivery trip.limits places trip.pickup trip.delivery c.loop-i.i x d) c.best_at.result)
          (to_z-of_z w64 c.loop-i.best.bound bound) (c.best_at.ensures d)) c.accept.ensures;
    }

pub returns : goal.returns
returns c = λ d.
    (let trip = c.args.trip.now in
    let places = c.args.places.now in
    let fits : SFits w64 c.args.below = record { sfits = c.ranges.below.sfits } in
    subst (λ x. IsFirstOf (AddsPair trip.limits places trip.pickup trip.delivery (c.args.first - 1) x d) c.loop-i.best.found)
    (to_z-of_z w64 c.args.below fits)
    (pairs-end trip.limits places trip.pickup trip.delivery (c.args.first - 1) d _ c.loop-i.i c.loop-i.best (c.loop-i.invariant.best d)
    (omega arith)))

pub returns-then-is_past : goal.returns-then-is_past
returns-then-is_past c = λ d.
    (let trip = c.args.trip.now in
    let places = c.args.places.now in
    let below : SFits w64 c.args.below = record { sfits = c.ranges.below.sfits } in
    subst (λ x. IsFirstOf (AddsPair trip.limits places trip.pickup trip.delivery (c.args.first - 1) x d) c.loop-i.best.found) (to_z-of_z w64 c.args.below below)
    (pairs-stop trip.limits places trip.pickup trip.delivery (c.args.first - 1) d _ c.loop-i.i c.loop-i.best (c.loop-i.invariant.best d)
    (λ k j h o l. c.is_past.ensures c.if-is_past.true k (omega arith) (omega arith) trip.delivery j d o l)))

-- The distance that the single adds at the next place is offered. After the last place the best so far is the
-- best of all.
use Rattle.std.proofs.Common.{◌≡◌, ◌∙◌, ◌+◌, ◌-◌, ◌≤◌, w64, rules, get_or, arith, subst, ap}
use mir.Val.{SFits}
use Rattle.std.proofs.lemmas.Int.{to_z-of_z}
use Rattle.nint_dist.specs.Distance.{distance}
use Rattle.slack_tables.specs.Best.{IsFirstOf}
use Rattle.slack_tables.specs.Scan.{AddsSingle, offered, served_single}
use Rattle.slack_tables.proofs.ScanLemmas.{singles-begin, single-more, singles-end}
use Rattle.slack_tables.proofs.WalkLemmas.{offered-single}
use Rattle.slack_tables.proofs.scan.best_single.Goals as goal

pub loop-i-init : goal.loop-i-init
loop-i-init c = record {
  following = omega arith;
  to = λ d.
      (let here : c.args.kept ≡ c.args.kept + 1 - 1 = omega arith in
      subst (λ k. c.leg_longer_side-to.result ≤ distance (get_or c.args.places.now k d).at.stop c.args.stop.now) here
      (c.leg_longer_side-to.ensures.value d));
  bound = c.leg_longer_side-to.ensures.bound;
  best = λ d. singles-begin c.args.limits c.args.places.now c.args.stop.now c.args.kept d _ _ c.none_below-best.ensures;
}

pub loop-i-preserved : goal.loop-i-preserved
loop-i-preserved c =
    let following = c.loop-i.invariant.following in
    let bound : SFits w64 c.loop-i.best.bound = search rules in
    record {
      following = omega arith;
      to = λ d.
          subst (λ k. c.leg_longer_side-from.result ≤ distance (get_or c.args.places.now k d).at.stop c.args.stop.now) (omega arith)
          (c.leg_longer_side-from.ensures.value d);
      bound = c.leg_longer_side-from.ensures.bound;
      best = λ d.
          (let price_if_feasible = subst
          (λ x. c.single_at-distance.result ≡ served_single x c.args.limits c.args.places.now c.args.stop.now c.loop-i.i d)
          (to_z-of_z w64 c.loop-i.best.bound bound) (c.single_at-distance.ensures d) in
          single-more c.args.limits c.args.places.now c.args.stop.now c.args.kept d _ c.loop-i.i c.loop-i.best
          (c.loop-i.invariant.best d) following (omega arith) c.offer.new.self
          (offered-single c.args.limits c.args.places.now c.args.stop.now c.loop-i.i d c.loop-i.best c.offer.new.self
          (c.offer.ensures ∙ ap (λ o. offered c.loop-i.best o c.loop-i.i c.loop-i.i) price_if_feasible)));
    }

pub returns : goal.returns
returns c = λ d.
    (let fits : SFits w64 c.args.below = record { sfits = c.ranges.below.sfits } in
    subst (λ x. IsFirstOf (AddsSingle c.args.limits c.args.places.now c.args.stop.now c.args.kept x d) c.loop-i.best.found)
    (to_z-of_z w64 c.args.below fits)
    (singles-end c.args.limits c.args.places.now c.args.stop.now c.args.kept d _ c.loop-i.i c.loop-i.best (c.loop-i.invariant.best d)
    (omega arith)))

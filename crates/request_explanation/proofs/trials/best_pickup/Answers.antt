-- One more place of the pickup, with all places of the delivery after it tried or skipped, keeps the best of
-- all.
use Rattle.std.proofs.Common.{◌≡◌, ◌∙◌, ◌<◌, ◌+◌, ◌-◌, ap, sym, subst, arith, length, map, min, take, pos}
use Rattle.std.specs.List.{range_with_len}
use Rattle.plan_types.specs.declared.requests.Request.TheVariants.{Pair}
use Rattle.plan_explain.specs.declared.rows.Row.{Row}
use Rattle.request_explanation.specs.Insertions.{violations_in, violations_then}
use Rattle.request_explanation.specs.Trials.{best_from, trial_at}
use Rattle.request_explanation.proofs.InsertionLemmas.{found_more}
use Rattle.request_explanation.proofs.TrialLemmas.{pair_next, pairs}
use Rattle.request_explanation.proofs.trials.best_pickup.Goals as goal
use Rattle.request_explanation.proofs.trials.best_pickup.Goals.{then-not-can_skip_pickup+in_ok-best, else-not-can_skip_pickup}

pub loop-at-preserved : goal.loop-at-preserved
loop-at-preserved c =
    let p = c.args.problem.now in
    let route = c.args.route.now in
    let a = c.args.pickup.now in
    let b = c.args.delivery.now in
    let rows = c.args.base.now.rows.now in
    let at = c.loop-at.at in
    let place = at + 1 in
    let so_far = c.loop-at.best in
    let none : Row = record { place = 0; stop = 0; arrival = 0; start = 0; earliest = 0; latest = 0; load = pos 0 } in
    let same_long = ap length c.requires.base.same in
    let below : at < length rows = omega (arith, c.loop-at-test.true, c.requires.base.tour.long, same_long) in
    let here : min at (length rows) ≡ at = omega (arith, below) in
    let next : at + 1 ≡ min (at + 1) (length rows) = omega (arith, below) in
    let front = c.loop-at.invariant.0 ∙ ap (λ k. violations_in p (take k rows)) here in
    let rest = sym (pair_next p route a b so_far place (omega (arith, c.loop-at-test.true))) ∙ c.loop-at.invariant.1 in (
      c.then-front.ensures ∙ ap (λ f. violations_then f c.violations_at.result) front ∙ ap (violations_then (violations_in p (take at rows))) c.violations_at.ensures
          ∙ found_more p rows at none below ∙ ap (λ k. violations_in p (take k rows)) next,
      elim c.if-not-can_skip_pickup.branch [
        | then-not-can_skip_pickup+in_ok-best w ↦ ap (λ t. best_from t (pairs p route a b (place + 1))) (w.best-is ∙ w.in_ok-best.ensures) ∙ rest
        | else-not-can_skip_pickup w ↦ (
            let stays = subst (λ r. so_far ≡ best_from so_far (map (trial_at p r (Pair a b)) (map (λ j. (place, j)) (range_with_len (place + 1) (length r + 2 - place))))) c.requires.base.same
            (c.can_skip_pickup.ensures w.if-not-can_skip_pickup.false a b c.requires.base.number) in
            ap (λ t. best_from t (pairs p route a b (place + 1))) (w.best-is ∙ stays) ∙ rest)
      ],
    )

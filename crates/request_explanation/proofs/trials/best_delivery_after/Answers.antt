-- A place of the delivery that is tried or skipped keeps the best of all. Once the best trial is settled, it
-- stays the best.
use Rattle.std.proofs.Common.{◌≡◌, ◌∙◌, ◌<◌, ◌+◌, ◌-◌, ap, subst, arith, pos, map, sym, take, drop, length, None}
use Rattle.std.specs.List.{range_with_len}
use Rattle.std.proofs.lemmas.List.Edits.{length-insert}
use Rattle.plan_explain.specs.declared.rows.Row.{Row}
use Rattle.request_explanation.specs.LimitViolations.{overload_in}
use Rattle.request_explanation.specs.Insertions.{violations_in, violations_then, with_load_change}
use Rattle.plan_types.specs.declared.requests.Request.TheVariants.{Pair}
use Rattle.request_explanation.specs.Trials.{best_from, best_with, better, trial_at}
use Rattle.request_explanation.proofs.InsertionLemmas.{found_more, light_later}
use Rattle.request_explanation.proofs.TrialLemmas.{delivery_more, settled, trial_with}
use Rattle.request_explanation.proofs.trials.best_delivery_after.Goals as goal
use Rattle.request_explanation.proofs.trials.best_delivery_after.Goals.{in-Some-None, in-Some-Some, in-None+in_ok-trial-in-None}

pub quick_trial-requires-clause-light : goal.quick_trial-requires-clause-light
quick_trial-requires-clause-light c = λ light.
    let tour = c.args.tour.now in
    light_later c.args.problem.now tour c.args.place (c.loop-following.following - 1) (omega (arith, c.loop-following.auto.following))
    (subst (λ q. overload_in q.capacity (with_load_change tour.stop.now.demand (drop c.args.place tour.rows.now)) ≡ None) c.problem.view_is (c.fits_capacity-fits_capacity.ensures light))

pub returns-then-is_settled : goal.returns-then-is_settled
returns-then-is_settled c =
    let p = c.args.problem.now in
    let route = c.args.route.now in
    let a = c.args.pickup.now in
    let b = c.args.delivery.now in
    let place = c.args.place in
    let following = c.loop-following.following in
    let picked = c.requires.picked in
    let longer = length-insert route (place - 1) a.number (omega (arith, c.requires.within.0, c.requires.within.1)) in
    let long = ap length picked ∙ longer in
    let count : length route + 3 - (place + 1) ≡ length route + 2 - place = omega arith in
    settled p route a b c.args.tour.now c.loop-following.front c.loop-following.best _ place following c.requires.tour.rows picked
    c.loop-following.invariant.0 (omega (arith, c.loop-following.auto.following, c.requires.within.0)) long
    (sym c.is_settled.ensures ∙ c.if-is_settled.true) c.loop-following.invariant.1
    ∙ ap (λ n. best_from c.args.so_far (map (trial_at p route (Pair a b)) (map (λ j. (place, j)) (range_with_len (place + 1) n)))) count

pub loop-following-preserved : goal.loop-following-preserved
loop-following-preserved c =
    let p = c.args.problem.now in
    let route = c.args.route.now in
    let tour = c.args.tour.now in
    let a = c.args.pickup.now in
    let b = c.args.delivery.now in
    let place = c.args.place in
    let following = c.loop-following.following in
    let best = c.loop-following.best in
    let none : Row = record { place = 0; stop = 0; arrival = 0; start = 0; earliest = 0; latest = 0; load = pos 0 } in
    let from = c.loop-following.auto.following in
    let below = c.loop-following-test.true in
    let picked = c.requires.picked in
    let longer = length-insert route (place - 1) a.number (omega (arith, c.requires.within.0, c.requires.within.1)) in
    let same_long = ap length picked in
    let within : following - 1 < length tour.rows.now = omega (arith, from, below, longer, same_long, c.requires.tour.long) in
    let same : following - 1 + 1 ≡ following + 1 - 1 = omega (arith, from) in
    let trial = trial_with p route a b tour.route.now place following (omega (arith, from)) picked in (
      c.then-front.ensures ∙ ap (λ f. violations_then f c.violations_at.result) c.loop-following.invariant.0 ∙ ap (violations_then (violations_in p (take (following - 1) tour.rows.now))) c.violations_at.ensures
          ∙ found_more p tour.rows.now (following - 1) none within ∙ ap (λ k. violations_in p (take k tour.rows.now)) same,
      elim c.match-quick_trial.branch [
        | in-Some-None w ↦ delivery_more p route a b best c.match-quick_trial.best _ place following below
            (w.best-is ∙ ap (best_with best) (sym w.in-Some-None.field-0-is) ∙ w.in-Some-None.ensures b.number c.requires.number ∙ ap (better best) trial) c.loop-following.invariant.1
        | in-Some-Some w ↦ delivery_more p route a b best c.match-quick_trial.best _ place following below
            (w.best-is ∙ w.better-best.ensures ∙ ap (best_with best) (sym w.in-Some-Some.field-0-is) ∙ w.in-Some-Some.ensures b.number c.requires.number ∙ ap (better best) trial)
            c.loop-following.invariant.1
        | in-None+in_ok-trial-in-None w ↦ delivery_more p route a b best c.match-quick_trial.best _ place following below
            (w.best-is ∙ w.better-best-in-None.ensures ∙ ap (better best) w.in_ok-trial-in-None.ensures) c.loop-following.invariant.1
      ],
    )

-- Once the next place is tried, the best trial so far and the remaining places still lead to the best of all.
use Rattle.std.proofs.Common.{◌∙◌, ◌+◌, ap, sym, arith}
use Rattle.request_explanation.specs.Trials.{best_from, better}
use Rattle.request_explanation.proofs.TrialLemmas.{single_next, singles}
use Rattle.request_explanation.proofs.trials.best_single.Goals as goal

pub loop-front-preserved : goal.loop-front-preserved
loop-front-preserved c =
    let p = c.args.problem.now in
    let route = c.args.route.now in
    let stop = c.args.stop.now in
    let place = c.loop-front.front + 1 in
    ap (λ b. best_from b (singles p route stop (place + 1))) (c.better-best.ensures ∙ ap (better c.loop-front.best) c.in_ok-trial.ensures)
    ∙ sym (single_next p route stop c.loop-front.best place (omega (arith, c.loop-front-test.true))) ∙ c.loop-front.invariant

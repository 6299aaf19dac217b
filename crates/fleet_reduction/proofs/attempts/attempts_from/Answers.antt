-- Each attempt lowers `attempts_left`, and the remaining attempts lead to the same result.
use Rattle.std.proofs.Common.{◌∙◌, ◌+◌, ap, arith}
use Rattle.fleet_reduction.specs.ReductionStates.{attempts_by}
use Rattle.fleet_reduction.specs.Attempts.{max_attempts, attempts_from}
use Rattle.fleet_reduction.proofs.AttemptLemmas.{at_begin, at_end, at_next, below_of, goes_off, goes_on, order_of}
use Rattle.fleet_reduction.proofs.attempts.attempts_from.Goals.{then-loop-attempts-test+else-attempts-gt0, else-loop-attempts-test}
use Rattle.fleet_reduction.proofs.attempts.attempts_from.Goals as goal

pub loop-attempts-init : goal.loop-attempts-init
loop-attempts-init g c =
    let laws = below_of c.picked_pass.ensures.picked c.picked_pass.ensures.back c.attempts_keep_passing.ensures.passing c.attempts_keep_passing.ensures.short in
    record {
      at =
          at_begin laws c.args.context.now.problem.now c.args.context.now.pins.now.routes c.requires.pins c.requires.kind.1 c.args.context.now.seed c.args.count (c.args.attempts.step + c.from.result)
          (attempts_by c.args.attempts) (ap (λ n. c.args.attempts.step + n) c.from.ensures)
          c.requires.plan;
      end = ap (λ n. c.args.attempts.step + n) c.from.ensures;
      first = omega arith;
    }

pub next-requires-clause-few : goal.next-requires-clause-few
next-requires-clause-few g c = omega (arith, c.loop-attempts.invariant.end, c.loop-attempts.invariant.first)

pub loop-attempts-smaller : goal.loop-attempts-smaller
loop-attempts-smaller g c =
    let laws = below_of c.picked_pass.ensures.picked c.picked_pass.ensures.back c.attempts_keep_passing.ensures.passing c.attempts_keep_passing.ensures.short in
    let order = order_of c.costs_compare_lexicographically.ensures.below_is_correct c.costs_are_totally_ordered.ensures.below_is_at_most in
    let p = c.args.context.now.problem.now in
    let pins = c.args.context.now.pins.now.routes in
    let end = c.args.attempts.step + c.from.result in
    let t = attempts_by c.loop-attempts.attempts in
    let on = goes_on p pins end t c.loop-attempts-test.true c.if-attempts-gt0.true in
    (at_next laws p pins c.requires.pins c.requires.kind.1 c.args.context.now.seed c.args.count end order c.requires.kind.0 _ t (attempts_by c.in_ok-attempts.attempts) on c.in_ok-attempts.ensures c.loop-attempts.invariant.at).1

pub loop-attempts-preserved : goal.loop-attempts-preserved
loop-attempts-preserved g c =
    let laws = below_of c.picked_pass.ensures.picked c.picked_pass.ensures.back c.attempts_keep_passing.ensures.passing c.attempts_keep_passing.ensures.short in
    let order = order_of c.costs_compare_lexicographically.ensures.below_is_correct c.costs_are_totally_ordered.ensures.below_is_at_most in
    let p = c.args.context.now.problem.now in
    let pins = c.args.context.now.pins.now.routes in
    let end = c.args.attempts.step + c.from.result in
    let t = attempts_by c.loop-attempts.attempts in
    let on = goes_on p pins end t c.loop-attempts-test.true c.if-attempts-gt0.true in
    let next = at_next laws p pins c.requires.pins c.requires.kind.1 c.args.context.now.seed c.args.count end order c.requires.kind.0 _ t
    (attempts_by c.in_ok-attempts.attempts) on c.in_ok-attempts.ensures c.loop-attempts.invariant.at in
    record { at = next.0; end = c.loop-attempts.invariant.end; first = omega (arith, c.loop-attempts.invariant.first, next.2) }

pub returns : goal.returns
returns g c =
    let laws = below_of c.picked_pass.ensures.picked c.picked_pass.ensures.back c.attempts_keep_passing.ensures.passing c.attempts_keep_passing.ensures.short in
    let p = c.args.context.now.problem.now in
    let pins = c.args.context.now.pins.now.routes in
    let end = c.args.attempts.step + c.from.result in
    let t = attempts_by c.loop-attempts.attempts in
    let off =
    goes_off p pins end t (λ below some. elim c.loop-attempts-test.branch [
      | then-loop-attempts-test+else-attempts-gt0 w ↦ omega (arith, some, w.if-attempts-gt0.false)
      | else-loop-attempts-test w ↦ omega (arith, below, w.loop-attempts-test.false)
    ]) in
    let all = at_end laws p pins c.requires.pins c.requires.kind.1 c.args.context.now.seed c.args.count end _ t off c.loop-attempts.invariant.at in
    all ∙ ap (λ n. attempts_from p pins c.args.context.now.seed c.args.count n (max_attempts p pins c.args.count (attempts_by c.args.attempts)) (attempts_by c.args.attempts)) c.loop-attempts.invariant.end

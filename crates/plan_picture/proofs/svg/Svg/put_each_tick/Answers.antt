-- The next tick precedes the remaining ticks, and there are at most fourteen ticks.
use Rattle.std.proofs.Common.{◌≡◌, ◌∙◌, ◌+◌, ◌-◌, ◌*◌, ◌++◌, suc, ap, append_assoc, arith}
use Rattle.std.specs.Int.{div_ceil}
use Rattle.std.specs.List.{flat_map, range_with_len}
use Rattle.plan_picture.specs.Days.{nth_tick, tick_text}
use Rattle.plan_picture.proofs.svg.Svg.put_each_tick.Goals as goal

pub loop-n-preserved : goal.loop-n-preserved
loop-n-preserved c =
    let ticks = nth_tick c.args.first c.args.last c.args.height c.args.step in
    let n = c.loop-n.n in
    let text = c.loop-n.self in
    let rest = flat_map ticks (range_with_len (n + 1) (14 - (n + 1))) in
    let fewer : suc (14 - (n + 1)) ≡ 14 - n = omega (arith, c.loop-n-test.true) in
    let first = c.div_ceil.ensures ∙ ap (λ x. div_ceil x c.args.step) c.from.ensures in
    let is = c.put_tick.ensures ∙ ap (λ d. text ++ tick_text c.args.first c.args.last c.args.height (c.args.step * (d + n))) first in
    ap (λ t. t ++ rest) is
    ∙ (append_assoc text (ticks n) rest ∙ (ap (λ m. text ++ flat_map ticks (range_with_len n m)) fewer ∙ c.loop-n.invariant))

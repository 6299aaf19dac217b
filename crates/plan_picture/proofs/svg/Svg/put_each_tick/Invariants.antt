-- The text so far, followed by that of the remaining ticks, is the whole text.
use Rattle.std.proofs.Common.{◌≡◌, ◌-◌, ◌++◌}
use Rattle.std.specs.List.{flat_map, range_with_len}
use Rattle.plan_picture.specs.Days.{nth_tick}
use Rattle.plan_picture.proofs.svg.Svg.put_each_tick.Given as goal

abbrev pub invariant-loop-n : goal.invariant-loop-n
invariant-loop-n l =
    l.self ++ flat_map (nth_tick l.first l.last l.height l.step) (range_with_len l.n (14 - l.n)) ≡ l.fn.self ++ flat_map (nth_tick l.first l.last l.height l.step) (range_with_len 0 14)

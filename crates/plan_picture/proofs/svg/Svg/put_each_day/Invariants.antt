-- The text so far, followed by that of the remaining routes, is the whole text.
use Rattle.std.proofs.Common.{◌≡◌, ◌++◌, drop}
use Rattle.plan_picture.specs.Days.{day_text}
use Rattle.plan_picture.specs.Svg.{each}
use Rattle.plan_picture.proofs.svg.Svg.put_each_day.Given as goal

abbrev pub invariant-loop-index : goal.invariant-loop-index
invariant-loop-index l = l.self ++ each (day_text l.problem) (l.index) (drop l.index l.routes) ≡ l.fn.self ++ each (day_text l.problem) 0 l.routes

-- The text so far, followed by that of the remaining routes, is the whole text.
use Rattle.std.proofs.Common.{◌≡◌, ◌+◌, ◌++◌, drop}
use Rattle.plan_picture.specs.Map.{line_text}
use Rattle.plan_picture.specs.Svg.{each}
use Rattle.plan_picture.proofs.svg.Svg.put_each_line.Given as goal

abbrev pub invariant-loop-index : goal.invariant-loop-index
invariant-loop-index l =
    let s = l.scene in
    let line = line_text s.problem.now l.frame s.broken.route in
    l.self ++ each line (s.first + l.index) (drop l.index s.routes.now) ≡ l.fn.self ++ each line s.first s.routes.now

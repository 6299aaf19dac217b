-- The text so far, followed by that of the remaining routes, is the whole text.
use Rattle.std.proofs.Common.{◌≡◌, ◌++◌, drop}
use Rattle.plan_picture.specs.Table.{row_text}
use Rattle.plan_picture.specs.Svg.{each}
use Rattle.plan_picture.proofs.svg.Svg.put_each_row.Given as goal

abbrev pub invariant-loop-index : goal.invariant-loop-index
invariant-loop-index l =
    let s = l.scene in
    let row = row_text s.problem.now l.grid s.broken.route s.first in
    l.self ++ each row l.index (drop l.index s.routes.now) ≡ l.fn.self ++ each row 0 s.routes.now

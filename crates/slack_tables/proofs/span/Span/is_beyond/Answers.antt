-- The distance to each stop in the box is at least the longer of the two gaps to the box. So if that gap
-- exceeds the reach, all these distances do.
use Rattle.std.proofs.Common.{w32, rules, ◌≤ℤ◌, subst, sym, arith}
use mir.Val.{SFits}
use Rattle.std.proofs.lemmas.Bool.{ltb-true}
use Rattle.std.proofs.lemmas.Int.{ints, to_z-of_z}
use Rattle.slack_tables.proofs.SpanLemmas.{apart-le}
use Rattle.slack_tables.proofs.span.Span.is_beyond.Goals as goal

pub returns : goal.returns
returns c = λ holds s inside.
    (let w : SFits w32 c.args.self.now.west = search rules in
    let x : SFits w32 c.args.center.now.x = search rules in
    let y : SFits w32 c.args.center.now.y = search rules in
    let dx = c.gap-dx.ensures.below s.x (subst (λ z. z ≤ℤ s.x) (sym (to_z-of_z w32 c.args.self.now.west w)) inside.west)
    (subst (λ z. s.x ≤ℤ z) (sym (to_z-of_z w32 c.args.self.now.east (search rules))) inside.east) in
    let dy = c.gap-dy.ensures.below s.y (subst (λ z. z ≤ℤ s.y) (sym (to_z-of_z w32 c.args.self.now.south (search rules))) inside.south)
    (subst (λ z. s.y ≤ℤ z) (sym (to_z-of_z w32 c.args.self.now.north (search rules))) inside.north) in
    let near = apart-le c.distances_are_nearest_roots.ensures c.args.center.now s c.gap-dx.result c.gap-dy.result c.longer_side.result
    c.longer_side.ensures.below
    (omega (arith, ints)) (omega (arith, ints)) in
    let far = ltb-true c.from.result c.longer_side.result holds in
    omega (arith, c.from.ensures))

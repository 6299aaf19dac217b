-- A stop in the box is at least both gaps away, so the lower bound for these gaps is one for its distance.
use Rattle.std.proofs.Common.{w32, rules, ◌≤ℤ◌, subst, sym}
use mir.Val.{SFits}
use Rattle.std.proofs.lemmas.Int.{to_z-of_z}
use Rattle.slack_tables.proofs.SpanLemmas.{apart-le}
use Rattle.slack_tables.proofs.span.Span.lower_bound_inside.Goals as goal

pub returns-clause-below : goal.returns-clause-below
returns-clause-below c = λ s inside.
    (let w : SFits w32 c.args.self.now.west = search rules in
    let x : SFits w32 c.args.stop.now.x = search rules in
    let y : SFits w32 c.args.stop.now.y = search rules in
    let dx = c.gap-dx.ensures.below s.x (subst (λ z. z ≤ℤ s.x) (sym (to_z-of_z w32 c.args.self.now.west w)) inside.west)
    (subst (λ z. s.x ≤ℤ z) (sym (to_z-of_z w32 c.args.self.now.east (search rules))) inside.east) in
    let dy = c.gap-dy.ensures.below s.y (subst (λ z. z ≤ℤ s.y) (sym (to_z-of_z w32 c.args.self.now.south (search rules))) inside.south)
    (subst (λ z. s.y ≤ℤ z) (sym (to_z-of_z w32 c.args.self.now.north (search rules))) inside.north) in
    apart-le c.distances_are_nearest_roots.ensures s c.args.stop.now c.gap-dx.result c.gap-dy.result c.length_lower_bound.result c.length_lower_bound.ensures.below
    (rw (← to_z-of_z w32 c.args.stop.now.x x) dx) (rw (← to_z-of_z w32 c.args.stop.now.y y) dy))

-- The distance between neighboring places of a table is the difference of their distances, and no distance
-- exceeds 2,828,427.
use Rattle.std.proofs.Common.{◌≡◌, ◌+◌, ◌-◌, ◌≤◌, get_or, refl, subst, sym}
use Rattle.nint_dist.specs.Distance.{distance}
use Rattle.slack_tables.specs.declared.progress.PlaceSlack.{PlaceSlack}
use Rattle.slack_tables.proofs.KnownLegLemmas.{distance_le, way_is}
use Rattle.slack_tables.proofs.known_legs.next_leg.Goals as goal

pub returns-then-is_next-clause-value : goal.returns-then-is_next-clause-value
returns-then-is_next-clause-value c =
    let places = c.args.known.now in
    let place = c.args.cursor.now.place in
    let from = c.args.from.now in
    let to = c.args.to.now in
    let here = c.requires.here c.if-is_next.true in
    let next = c.requires.next c.if-is_next.true in
    let d = c.row_at.result.now in
    let way = way_is places c.requires.linked place (place + 1) d from to refl next.within (here.x d) (here.y d) (next.x d) (next.y d) in
    let of_first_stop = subst (λ (e : PlaceSlack). (get_or places (place + 1) d).at.distance - e.at.distance ≡ distance from to) (sym (c.row_at-then-is_next.ensures d)) way in
    subst (λ (e : PlaceSlack). e.at.distance - c.row_at-then-is_next.result.now.at.distance ≡ distance from to) (sym (c.row_at.ensures d)) of_first_stop

pub returns-then-is_next-clause-bound : goal.returns-then-is_next-clause-bound
returns-then-is_next-clause-bound c =
    subst (λ way. way ≤ 2828427) (sym (returns-then-is_next-clause-value c))
    (distance_le c.distances_are_nearest_roots.ensures c.args.from.now c.args.to.now c.requires.from c.requires.to)

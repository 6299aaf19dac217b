-- The result of the scan over the places of a table is the best insertion into every route with the course of
-- the table.
use Rattle.std.proofs.Common.{◌∙◌, w64, to_z, of_z, Some, sym, ap, subst}
use mir.Val.{SFits}
use Rattle.std.proofs.lemmas.Int.{to_z-of_z}
use Rattle.slack_tables.specs.Best.{IsFirstOf, IsBestAddition}
use Rattle.slack_tables.specs.Course.{Course, course_route}
use Rattle.slack_tables.specs.Scan.{AddsSingle, AddsPair}
use Rattle.slack_tables.specs.ForwardPass.{at_depot, forward_row}
use Rattle.slack_tables.proofs.InsertLemmas.{limits_of}
use Rattle.slack_tables.proofs.BestLemmas.{single-best, pair-best, ascending}
use Rattle.slack_tables.specs.ClosedPlaces.{AreTight}
use Rattle.slack_tables.proofs.TightLemmas.{tight}
use Rattle.slack_tables.proofs.table.RouteTable.best_places_with.Goals as goal

pub best_pair-requires-clause-ascending : goal.best_pair-requires-clause-ascending
best_pair-requires-clause-ascending c = ascending c.args.self.now c.rows-places.result.now c.rows-places.ensures.known

pub best_pair-requires-clause-tight : goal.best_pair-requires-clause-tight
best_pair-requires-clause-tight c =
    subst (λ (q : Course). AreTight q.kind c.rows-places.result.now) (sym c.self.view_is)
    (tight c.args.self.now c.rows-places.result.now c.rows-places.ensures.known)

pub returns-in-Single : goal.returns-in-Single
returns-in-Single c = λ p name valid is named.
    (let course = c.args.self.now in
    let places = c.rows-places.result.now in
    let stop = c.in-Single.stop in
    let d = forward_row (at_depot stop) in
    let fits : SFits w64 c.args.below = record { sfits = c.ranges.below.sfits } in
    let first = subst (λ x. IsFirstOf (AddsSingle (limits_of course) places stop c.args.kept x d) c.best_single.result) (to_z-of_z w64 c.args.below fits)
    (subst (λ (q : Course). IsFirstOf
    (AddsSingle (limits_of q) places stop c.args.kept (to_z w64 (of_z w64 c.args.below)) d) c.best_single.result) c.self.view_is
    (c.best_single.ensures d)) in
    subst (λ r. IsBestAddition p (course_route course) r c.args.kept c.args.below c.best_single.result) (sym c.in-Single.is)
    (single-best p course places c.rows-places.ensures.known valid is c.requests_are_found_by_stop.ensures name c.args.kept
    c.args.below d stop c.best_single.result
    (named ∙ ap (λ r. Some r) c.in-Single.is) first))

pub returns-in-Pair : goal.returns-in-Pair
returns-in-Pair c = λ p name valid is named.
    (let course = c.args.self.now in
    let places = c.rows-places.result.now in
    let pickup = c.in-Pair.pickup in
    let delivery = c.in-Pair.delivery in
    let d = forward_row (at_depot pickup) in
    let fits : SFits w64 c.args.below = record { sfits = c.ranges.below.sfits } in
    let first = subst (λ x. IsFirstOf (AddsPair (limits_of course) places pickup delivery c.args.kept x d) c.best_pair.result) (to_z-of_z w64 c.args.below fits)
    (subst (λ (q : Course). IsFirstOf
    (AddsPair (limits_of q) places pickup delivery c.args.kept (to_z w64 (of_z w64 c.args.below)) d) c.best_pair.result) c.self.view_is
    (c.best_pair.ensures d)) in
    subst (λ r. IsBestAddition p (course_route course) r c.args.kept c.args.below c.best_pair.result) (sym c.in-Pair.is)
    (pair-best p course places c.rows-places.ensures.known valid is c.requests_are_found_by_stop.ensures name c.args.kept c.args.below
    d pickup delivery c.best_pair.result
    (named ∙ ap (λ r. Some r) c.in-Pair.is) first))

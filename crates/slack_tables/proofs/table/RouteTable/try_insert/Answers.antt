-- The distance that a single or a pair adds, computed from the table's places, is the distance by which the
-- route gets longer. The result is `None` if the new route breaks a limit.
use Rattle.std.proofs.Common.{◌≡◌, ◌∙◌, length, Option, Some, None, refl, sym, ap, subst}
use Rattle.std.specs.Prelude.{IsSome, IsSomeAnd, IfSome}
use Rattle.plan_types.specs.declared.requests.Request.{Request}
use Rattle.plan_types.specs.declared.requests.Request.TheVariants.{Single, Pair}
use Rattle.slack_tables.specs.Course.{Course, course_route}
use Rattle.slack_tables.specs.DriveSteps.{with_single, with_pair}
use Rattle.slack_tables.specs.Insertion.{request_named, inserted, ArePlaces, IsAdded}
use Rattle.slack_tables.specs.ForwardPass.{at_depot, forward_row}
use Rattle.slack_tables.proofs.InsertLemmas.{limits_of, single-added, pair-added}
use Rattle.slack_tables.proofs.table.RouteTable.try_insert.Goals as goal

some-from : (P : Request → Type 0) (o : Option Request) → IsSomeAnd o P → IsSome o
some-from P None h = absurd h
some-from P (Some r) h = refl

pub returns-in-Single : goal.returns-in-Single
returns-in-Single c =
    let problem = c.args.problem.now in
    let course = c.args.self.now in
    let route = course_route course in
    let places = c.rows-places.result.now in
    let i = c.args.i in
    let j = c.args.j in
    let name = c.args.name in
    let stop = c.in-Single.stop in
    let named : request_named problem name ≡ Some (Single stop) = c.current_request.ensures.found ∙ ap (λ r. Some r) c.in-Single.is in
    let are : ArePlaces (Single stop) (length route) i j = subst (λ o. IsSomeAnd o (λ r. ArePlaces r (length route) i j)) named c.requires.places in
    let d = forward_row (at_depot stop) in
    let made = c.added_by_single.ensures d in
    let limits = ap (λ (q : Course). with_single (limits_of q) places stop i d) c.self.view_is in
    subst (λ o. IfSome o (λ r. IsAdded problem route (inserted r i j route) c.added_by_single.result)) (sym named)
    (single-added problem course places c.rows-places.ensures.known c.current_request.ensures.problem c.requires.course
    c.requests_are_found_by_stop.ensures name i j stop d c.added_by_single.result named are
    (made ∙ limits))

pub returns-in-Pair : goal.returns-in-Pair
returns-in-Pair c =
    let problem = c.args.problem.now in
    let course = c.args.self.now in
    let route = course_route course in
    let places = c.rows-places.result.now in
    let i = c.args.i in
    let j = c.args.j in
    let name = c.args.name in
    let pickup = c.in-Pair.pickup in
    let delivery = c.in-Pair.delivery in
    let named : request_named problem name ≡ Some (Pair pickup delivery) = c.current_request.ensures.found ∙ ap (λ r. Some r) c.in-Pair.is in
    let are : ArePlaces (Pair pickup delivery) (length route) i j = subst (λ o. IsSomeAnd o (λ r. ArePlaces r (length route) i j)) named c.requires.places in
    let d = forward_row (at_depot pickup) in
    let made = c.added_by_pair.ensures d in
    let limits = ap (λ (q : Course). with_pair (limits_of q) places pickup delivery i j d) c.self.view_is in
    subst (λ o. IfSome o (λ r. IsAdded problem route (inserted r i j route) c.added_by_pair.result)) (sym named)
    (pair-added problem course places c.rows-places.ensures.known c.current_request.ensures.problem c.requires.course
    c.requests_are_found_by_stop.ensures name i j pickup delivery d c.added_by_pair.result named are
    (made ∙ limits))

-- The places of a route within its limits are those of its course, whose stops have the route's numbers. The
-- near table has prefixes and stops of this problem.
use Rattle.std.proofs.Common.{◌∙◌, ap, subst}
use Rattle.plan_types.specs.Instance.{IsInstance}
use Rattle.slack_tables.specs.Course.{course_route}
use Rattle.slack_tables.specs.TableFields.{limits_of, course_from}
use Rattle.slack_tables.proofs.TableLemmas.{numbers-are}
use Rattle.slack_tables.proofs.table.RouteTable.into_rebuilt.Goals as goal

pub returns-clause-route : goal.returns-clause-route
returns-clause-route c =
    let valid : IsInstance c.args.problem.now = subst (λ q. IsInstance q) c.problem.view_is c.problem.invariant.valid in
    let made = c.in_ok-rebuild_places.ensures.made c.if-not-branch.false in
    let items = c.rebuild_places.new.places.items in
    let course = ap (λ l. course_from l c.problem.inside.depot items) c.limits_of.ensures.value
    ∙ (ap (λ q. course_from (limits_of c.args.problem.now) q.depot items) c.problem.view_is ∙ made.course) in
    ap (λ course. course_route course) course ∙ numbers-are c.args.problem.now c.args.route.now valid c.requires.route

pub rebuild_places-requires-clause-prefixes : goal.rebuild_places-requires-clause-prefixes
rebuild_places-requires-clause-prefixes c = c.rows.ensures.prefixes c.args.problem.now c.requires.near

pub rebuild_places-requires-clause-stops : goal.rebuild_places-requires-clause-stops
rebuild_places-requires-clause-stops c = c.rows.ensures.stops c.args.problem.now c.requires.near

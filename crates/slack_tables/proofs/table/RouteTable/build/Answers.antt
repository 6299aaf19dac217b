-- The places are those of the route's course, whose stops have the route's numbers.
use Rattle.std.proofs.Common.{◌∙◌, ap, subst}
use Rattle.plan_types.specs.Instance.{IsInstance}
use Rattle.slack_tables.specs.Course.{course_route}
use Rattle.slack_tables.specs.TableFields.{course_from}
use Rattle.slack_tables.proofs.TableLemmas.{numbers-are}
use Rattle.slack_tables.proofs.table.RouteTable.build.Goals as goal

pub returns-clause-route : goal.returns-clause-route
returns-clause-route c =
    let valid : IsInstance c.args.problem.now = subst (λ q. IsInstance q) c.problem.view_is c.problem.invariant.valid in
    let course =
    ap (λ q. course_from (record { kind = q.kind; capacity = q.capacity }) q.depot c.rebuild_places.new.places.items) c.problem.view_is
    ∙ (c.in_ok-rebuild_places.ensures.made (c.in_ok-rebuild_places.ensures.kept.1 c.requires.limits)).course in
    ap (λ course. course_route course) course ∙ numbers-are c.args.problem.now c.args.route.now valid c.requires.route

-- A route within its limits is in time from place to place, so the backward pass completes the table of its
-- course.
use Rattle.std.proofs.Common.{◌≡◌, ◌∙◌, ◌+◌, length, refl, sym, subst}
use Rattle.plan_types.specs.Instance.{IsInstance}
use Rattle.slack_tables.specs.BackwardPass.{EachIsTimely, IsFilled}
use Rattle.slack_tables.specs.ForwardPass.{at_depot, forward_row}
use Rattle.slack_tables.proofs.TableLemmas.{route_timely, course-is, known-as}
use Rattle.slack_tables.proofs.table.fill.Goals as goal

pub fill_slack-requires-clause-timely : goal.fill_slack-requires-clause-timely
fill_slack-requires-clause-timely c =
    let valid : IsInstance c.args.problem.now = subst (λ q. IsInstance q) c.problem.view_is c.problem.invariant.valid in
    let kept = c.if-not-drive_route.false in
    let long : length c.drive_route.new.places ≡ length c.args.route.now + 2 = c.drive_route.auto.places ∙ c.requires.count in
    subst (λ q. EachIsTimely q.kind c.drive_route.new.places) (sym c.problem.view_is)
    (route_timely c.args.problem.now c.args.route.now valid (c.drive_route.ensures.kept.0 kept) c.drive_route.new.places
    (c.drive_route.ensures.opened kept) long)

pub returns-clause-made : goal.returns-clause-made
returns-clause-made c = λ _.
    (let p = c.args.problem.now in
    let route = c.args.route.now in
    let valid : IsInstance c.args.problem.now = subst (λ q. IsInstance q) c.problem.view_is c.problem.invariant.valid in
    let old = c.drive_route.new.places in
    let new = c.fill_slack.new.places in
    let kept = c.drive_route.ensures.kept.0 c.if-not-drive_route.false in
    let opened = c.drive_route.ensures.opened c.if-not-drive_route.false in
    let long : length c.drive_route.new.places ≡ length c.args.route.now + 2 = c.drive_route.auto.places ∙ c.requires.count in
    let filled : IsFilled c.args.problem.now.kind c.drive_route.new.places c.fill_slack.new.places =
    subst (λ q. IsFilled q.kind c.drive_route.new.places c.fill_slack.new.places) c.problem.view_is c.fill_slack.ensures in
    record {
      known = known-as p route valid kept old opened long new c.fill_slack.auto.places c.requires.few filled _ refl;
      course = course-is p route valid kept old opened long new c.fill_slack.auto.places c.requires.few filled (forward_row (at_depot c.args.problem.now.depot));
    })

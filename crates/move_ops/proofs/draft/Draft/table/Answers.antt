-- The tour of a vehicle is the table of its route, in each problem of the draft.
use Rattle.std.proofs.Common.{rules, ◌≡◌, ◌<◌, ◌-◌, ◌+◌, length, get_or, sym, subst, ap, ◌∙◌, arith}
use Rattle.std.proofs.Math.ListN.{length-map}
use Rattle.slack_tables.specs.Course.{course_route, IsCourseIn}
use Rattle.move_ops.specs.Insertion.{route_of}
use Rattle.move_ops.specs.Drafts.{draft_of}
use Rattle.move_ops.proofs.QueryLemmas.{course_at, route_at}
use Rattle.move_ops.proofs.draft.Draft.table.Goals as goal

pub returns-clause-route : goal.returns-clause-route
returns-clause-route c =
    let below : c.args.vehicle - 1 < length c.args.self.now.tours = let long = length-map c.args.self.now.tours course_route in
    let high = c.requires.within in
    let low = c.requires.from_one in
    omega arith in
    let next : c.args.vehicle - 1 + 1 ≡ c.args.vehicle = let low = c.requires.from_one in omega arith in
    ap course_route c.table.ensures
    ∙ (sym (route_at c.args.self.now.tours (c.args.vehicle - 1) c.index.result.now (search rules) below)
    ∙ ap (route_of (draft_of c.args.self.now)) next)

pub returns-clause-course : goal.returns-clause-course
returns-clause-course c = λ p pins is.
    (let at : c.index.result.now ≡ get_or c.args.self.now.tours (c.args.vehicle - 1) c.index.result.now = search rules in
    let below : c.args.vehicle - 1 < length c.args.self.now.tours = let long = length-map c.args.self.now.tours course_route in
    let high = c.requires.within in
    let low = c.requires.from_one in
    omega arith in
    subst (IsCourseIn p) (sym c.table.ensures) (course_at c.args.self.now.tours (c.args.vehicle - 1) c.index.result.now at below p is.tables))

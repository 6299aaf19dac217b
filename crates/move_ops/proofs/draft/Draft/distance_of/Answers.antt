-- The tour of a vehicle is the table of its route, so its distance is the route's length.
use Rattle.std.proofs.Common.{rules, ◌≡◌, ◌≤◌, ◌-◌, List, length, ap, sym, subst, ◌∙◌, arith}
use Rattle.route_sched.specs.Schedule.{route_length}
use Rattle.slack_tables.specs.Course.{Course, course_route}
use Rattle.move_ops.specs.Insertion.{route_of}
use Rattle.move_ops.specs.Tables.{plan_of, AreTablesIn}
use Rattle.move_ops.proofs.QueryLemmas.{course_at}
use Rattle.move_ops.proofs.DraftLemmas.{vehicle_route}
use Rattle.move_ops.proofs.draft.Draft.distance_of.Goals as goal

pub returns : goal.returns
returns c =
    let p = c.args.problem.now in
    let tours = c.self.inside.tours.items in
    let v = c.args.vehicle in
    let old = c.index.result.now in
    let viewed : c.args.self.now.tours ≡ tours = search rules in
    let within : v ≤ length tours = subst (λ (l : List Course). v ≤ length l) viewed c.requires.within in
    let low = c.requires.from_one in
    let tables : AreTablesIn p tours = subst (AreTablesIn p) viewed c.requires.tables in
    c.distance.ensures p (course_route old) (course_at tours (v - 1) old c.index.ensures (omega arith) p tables ∙ sym c.table.ensures)
    ∙ (ap (route_length p) (vehicle_route tours v old (λ none. absurd (omega arith)) (omega arith) c.index.ensures)
    ∙ ap (λ (l : List Course). route_length p (route_of (plan_of l) v)) (sym viewed))

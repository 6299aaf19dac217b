-- One more tour changes the number of used vehicles and the total length only by its own route. The remaining
-- tours lead to the plan with all.
use Rattle.std.proofs.Common.{rules, ◌≡◌, ◌-◌, ◌∷◌, [], length, sym, ap, subst, ◌∙◌, arith, length-append}
use Rattle.std.specs.Vec.Iter.{into_iter_items}
use Rattle.std.proofs.lemmas.List.{length-set}
use Rattle.move_ops.proofs.RouteCostLemmas.{length_moved, part}
use Rattle.slack_tables.specs.Course.{course_route, IsCourseIn}
use Rattle.move_ops.specs.Changes.{changes_of, with_routes, AreCourses}
use Rattle.move_ops.specs.Drafts.{draft_of}
use Rattle.move_ops.specs.FreshTables.{AreWithin}
use Rattle.route_sched.specs.Cost.{vehicle_count}
use Rattle.route_sched.specs.Schedule.{route_length}
use Rattle.move_ops.specs.Tables.{plan_of, AreTablesIn}
use Rattle.move_ops.proofs.DraftLemmas.{tables_with, plan_with}
use Rattle.move_ops.proofs.TourLemmas.{routes_with}
use Rattle.move_ops.proofs.draft.Draft.set_tours.Goals as goal

pub overflow_sub-driven : goal.overflow_sub-driven
overflow_sub-driven c =
    let p = c.args.problem.now in
    let old = c.loop-vehicle.self in
    let inv = c.loop-vehicle.invariant in
    let rest : into_iter_items c.loop-vehicle.vehicle-iterator ≡ (c.in-Some.vehicle, c.in-Some.tour) ∷ into_iter_items c.next.new.self = search rules in
    let all : AreWithin (length old.tours) ((c.in-Some.vehicle, c.in-Some.tour) ∷ into_iter_items c.next.new.self) =
    subst (AreWithin (length old.tours)) rest inv.within in
    let part = part (route_length p) old.tours c.in-Some.vehicle all.0.0 all.0.1 in
    omega arith

pub loop-vehicle-preserved : goal.loop-vehicle-preserved
loop-vehicle-preserved c =
    let p = c.args.problem.now in
    let old = c.loop-vehicle.self in
    let v = c.in-Some.vehicle in
    let tour = c.in-Some.tour in
    let left = into_iter_items c.next.new.self in
    let inv = c.loop-vehicle.invariant in
    let made = c.set_tour.ensures in
    let rest : into_iter_items c.loop-vehicle.vehicle-iterator ≡ (c.in-Some.vehicle, c.in-Some.tour) ∷ into_iter_items c.next.new.self = search rules in
    let all : AreWithin (length old.tours) ((c.in-Some.vehicle, c.in-Some.tour) ∷ into_iter_items c.next.new.self) =
    subst (AreWithin (length old.tours)) rest inv.within in
    let courses : AreCourses p ((c.in-Some.vehicle, c.in-Some.tour) ∷ into_iter_items c.next.new.self) = subst (AreCourses p) rest inv.courses in
    let long = ap length made.tours ∙ length-set old.tours (v - 1) tour in
    let moved = length_moved p old.tours c.set_tour.new.self.tours v tour made.tours all.0.0 all.0.1 in
    let is_course : IsCourseIn p tour = courses.0 in
    let there = c.distance.ensures p (course_route tour) (is_course ∙ sym (search rules)) in
    let few = inv.few in
    let more = length-append c.loop-vehicle.yielded ((v, tour) ∷ []) in
    record {
      vehicles = c.vehicle_count_with-vehicles.ensures ∙ ap (vehicle_count p.kind) (sym (ap plan_of made.tours ∙ plan_with old.tours (v - 1) tour));
      driven = omega arith;
      few = omega arith;
      tables = subst (AreTablesIn p) (sym made.tours) (tables_with p old.tours (v - 1) tour inv.tables is_course);
      within = subst (λ n. AreWithin n left) (sym long) all.1;
      courses = courses.1;
      plan =
          routes_with old.tours c.set_tour.new.self.tours v tour left made.tours
          ∙ (ap (λ l. with_routes (draft_of old) (changes_of l)) (sym rest) ∙ inv.plan);
      base = made.base ∙ inv.base;
      pinned = made.pinned ∙ inv.pinned;
      base_cost = made.base_cost ∙ inv.base_cost;
    }

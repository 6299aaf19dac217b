-- The total contains the length of each route. With another route for one vehicle the total loses the old length
-- and gains the new one.
use Rattle.std.proofs.Common.{rules, ◌≡◌, ◌+◌, ◌-◌, ap, sym, ◌∙◌, arith}
use Rattle.plan_types.specs.declared.plans.Cost.{Cost}
use Rattle.route_sched.specs.Cost.{cost_of, total_length}
use Rattle.route_sched.specs.Schedule.{route_length}
use Rattle.slack_tables.specs.Course.{course_route}
use Rattle.move_ops.specs.Drafts.{draft_of}
use Rattle.move_ops.specs.Insertion.{with_route}
use Rattle.move_ops.proofs.InsertionCosts.{same_cost}
use Rattle.move_ops.proofs.RouteCostLemmas.{part, part_changed}
use Rattle.move_ops.proofs.draft.Draft.cost_with.Goals as goal

pub overflow_sub-result : goal.overflow_sub-result
overflow_sub-result c =
    let p = c.args.problem.now in
    let cost : c.self.inside.cost ≡ cost_of p (draft_of c.args.self.now) = (search rules) ∙ c.requires.cost in
    let held = ap (λ (k : Cost). k.distance) cost in
    let old = c.distance_of-old.ensures in
    let le = part (route_length p) c.args.self.now.tours c.args.vehicle c.requires.from_one c.requires.within in
    omega arith

pub overflow_add-result : goal.overflow_add-result
overflow_add-result c =
    let p = c.args.problem.now in
    let cost : c.self.inside.cost ≡ cost_of p (draft_of c.args.self.now) = (search rules) ∙ c.requires.cost in
    let held = ap (λ (k : Cost). k.distance) cost in
    let old = c.distance_of-old.ensures in
    let new : c.distance.result ≡ route_length p (course_route c.args.tour.now) =
    c.distance.ensures p (course_route c.args.tour.now) (c.requires.course ∙ sym c.table.ensures) in
    let changed = part_changed (route_length p) c.args.self.now.tours c.args.vehicle c.requires.from_one c.requires.within (course_route c.args.tour.now) in
    let small = c.requires.small in
    omega arith

pub returns : goal.returns
returns c =
    let p = c.args.problem.now in
    let after = with_route (draft_of c.args.self.now) c.args.vehicle (course_route c.args.tour.now) in
    let cost : c.self.inside.cost ≡ cost_of p (draft_of c.args.self.now) = (search rules) ∙ c.requires.cost in
    let held = ap (λ (k : Cost). k.distance) cost in
    let old = c.distance_of-old.ensures in
    let new : c.distance.result ≡ route_length p (course_route c.args.tour.now) =
    c.distance.ensures p (course_route c.args.tour.now) (c.requires.course ∙ sym c.table.ensures) in
    let changed = part_changed (route_length p) c.args.self.now.tours c.args.vehicle c.requires.from_one c.requires.within (course_route c.args.tour.now) in
    let distance : c.self.inside.cost.distance - c.distance_of-old.result + c.distance.result ≡ total_length p after = omega arith in
    same_cost _ (cost_of p after) c.requires.unplanned c.vehicle_count_with.ensures distance

-- Whether a vehicle counts depends only on its own route. With another route the count loses the part of the old
-- one and gains that of the new one.
use Rattle.std.proofs.Common.{rules, ◌≡◌, ◌≤◌, ◌∙◌, List, length, ap, subst, arith}
use Rattle.plan_types.specs.declared.requests.Kind.{Kind}
use Rattle.plan_types.specs.declared.requests.Kind.TheVariants.{LiLim}
use Rattle.route_sched.specs.Cost.{used_count, vehicle_count}
use Rattle.slack_tables.specs.Course.{Course, course_route}
use Rattle.move_ops.specs.Changes.{used}
use Rattle.move_ops.specs.Insertion.{with_route}
use Rattle.move_ops.specs.Tables.{plan_of}
use Rattle.move_ops.proofs.DraftLemmas.{vehicle_route}
use Rattle.move_ops.proofs.RouteCostLemmas.{part, part_changed}
use Rattle.move_ops.proofs.draft.Draft.vehicle_count_with.Goals as goal

pub overflow_sub-result : goal.overflow_sub-result
overflow_sub-result c =
    let p = c.args.problem.now in
    let tours = c.self.inside.tours.items in
    let v = c.args.vehicle in
    let low = c.requires.from_one in
    let viewed : c.args.self.now.tours ≡ tours = search rules in
    let within : v ≤ length tours = subst (λ (l : List Course). v ≤ length l) viewed c.requires.within in
    let kind : p.kind ≡ LiLim = search rules in
    let now : c.args.now ≡ used_count (plan_of tours) =
    c.requires.now
    ∙ (ap (λ (l : List Course). vehicle_count p.kind (plan_of l)) viewed ∙ ap (λ (k : Kind). vehicle_count k (plan_of tours)) kind) in
    let old = ap used (vehicle_route tours v c.index-old.result.now (λ none. absurd (omega arith)) (omega arith) c.index-old.ensures) in
    let le = part used tours v low within in
    omega arith

pub returns-in-LiLim : goal.returns-in-LiLim
returns-in-LiLim c =
    let p = c.args.problem.now in
    let tours = c.self.inside.tours.items in
    let v = c.args.vehicle in
    let low = c.requires.from_one in
    let new = course_route c.args.tour.now in
    let viewed : c.args.self.now.tours ≡ tours = search rules in
    let within : v ≤ length tours = subst (λ (l : List Course). v ≤ length l) viewed c.requires.within in
    let kind : p.kind ≡ LiLim = search rules in
    let now : c.args.now ≡ used_count (plan_of tours) =
    c.requires.now
    ∙ (ap (λ (l : List Course). vehicle_count p.kind (plan_of l)) viewed ∙ ap (λ (k : Kind). vehicle_count k (plan_of tours)) kind) in
    let after : vehicle_count p.kind (with_route (plan_of c.args.self.now.tours) v new) ≡ used_count (with_route (plan_of tours) v new) = search rules in
    let old = ap used (vehicle_route tours v c.index-old.result.now (λ none. absurd (omega arith)) (omega arith) c.index-old.ensures) in
    let changed = part_changed used tours v low within new in
    omega arith

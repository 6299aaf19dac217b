-- If the log has the route as the vehicle's route of the base, its tour is restored; any other route gets a new
-- tour. The cost is that of the changed plan.
use Rattle.std.proofs.Common.{rules, ◌≡◌, ◌∙◌, ◌-◌, ◌<◌, ◌≤◌, ◌^◌, ℕ, List, length, set, sym, ap, subst}
use Rattle.route_sched.specs.Cost.{cost_of, total_length, unplanned_count}
use Rattle.slack_tables.specs.Course.{Course, course_route}
use Rattle.move_ops.specs.Drafts.{DraftState, draft_of}
use Rattle.move_ops.specs.Insertion.{with_route}
use Rattle.move_ops.proofs.RestoredRouteLemmas.{in_log, read_course, base_is, base_stops}
use Rattle.move_ops.proofs.draft.Draft.set_route.Goals as goal

pub index-requires : goal.index-requires
index-requires c =
    subst (λ (n : ℕ). c.in-Some.entry < n) (search rules)
    (in_log c.args.problem.now c.args.self.now c.self.inside c.self.invariant
    (search rules) c.requires.base c.args.vehicle c.in-Some.entry c.requires.within c.in-Some.ensures.0 c.in-Some.ensures.1)

pub undo-requires : goal.undo-requires
undo-requires c =
    let view : c.self.inside.log.items ≡ c.args.self.now.log = search rules in
    subst (λ (l : List (ℕ × Course)). c.in-Some.entry < length l) view
    (in_log c.args.problem.now c.args.self.now c.self.inside c.self.invariant view c.requires.base c.args.vehicle c.in-Some.entry
    c.requires.within c.in-Some.ensures.0 c.in-Some.ensures.1)

pub cost_with-cost-requires-clause-course : goal.cost_with-cost-requires-clause-course
cost_with-cost-requires-clause-course c =
    read_course c.args.problem.now c.args.self.now c.self.inside c.self.invariant
    (search rules) c.requires.base c.args.vehicle c.in-Some.entry c.requires.within c.in-Some.ensures.0 c.in-Some.ensures.1
    c.index.result.now c.index.ensures

pub cost_with-cost-requires-clause-small : goal.cost_with-cost-requires-clause-small
cost_with-cost-requires-clause-small c =
    let same : c.args.route.now ≡ course_route c.index.result.now.1 = sym (search rules) ∙ c.stops.ensures in
    subst (λ (r : List ℕ). total_length c.args.problem.now (with_route (draft_of c.args.self.now) c.args.vehicle r) ≤ 2 ^ 63) same c.requires.small

pub cost_with-cost-requires-clause-unplanned : goal.cost_with-cost-requires-clause-unplanned
cost_with-cost-requires-clause-unplanned c =
    let same : c.args.route.now ≡ course_route c.index.result.now.1 = sym (search rules) ∙ c.stops.ensures in
    c.requires.unplanned ∙ ap (λ (r : List ℕ). unplanned_count c.args.problem.now (with_route (draft_of c.args.self.now) c.args.vehicle r)) same

pub returns-then-eq-clause-cost : goal.returns-then-eq-clause-cost
returns-then-eq-clause-cost c =
    let same : c.args.route.now ≡ course_route c.index.result.now.1 = sym (search rules) ∙ c.stops.ensures in
    c.cost_with-cost.ensures ∙ ap (λ (r : List ℕ). cost_of c.args.problem.now (with_route (draft_of c.args.self.now) c.args.vehicle r)) (sym same)

pub returns-then-eq-clause-set : goal.returns-then-eq-clause-set
returns-then-eq-clause-set c =
    let p = c.args.problem.now in
    let view : c.self.inside.log.items ≡ c.args.self.now.log = search rules in
    let same : c.args.route.now ≡ course_route c.index.result.now.1 = sym (search rules) ∙ c.stops.ensures in
    let base = base_is p c.args.self.now c.self.inside c.self.invariant view c.requires.base c.args.vehicle c.in-Some.entry
    c.requires.within c.in-Some.ensures.0 c.in-Some.ensures.1 c.index.result.now c.index.ensures c.args.route.now
    (sym same) in
    let stops = base_stops p c.args.self.now c.self.inside c.self.invariant view c.requires.base c.args.vehicle c.in-Some.entry
    c.requires.within c.in-Some.ensures.0 c.in-Some.ensures.1 c.index.result.now c.index.ensures c.args.route.now
    (sym same) in
    let made = c.undo.ensures in
    record {
      tours = made.tours (c.args.vehicle, c.in-Some.ensures.0) c.in-Some.ensures.1 ∙ ap (λ (t : Course). set c.args.self.now.tours (c.args.vehicle - 1) t) base;
      stops = stops;
      base = made.base;
      pinned = made.pinned;
      base_cost = made.base_cost;
    }

pub cost_with-cost-requires-2-clause-cost : goal.cost_with-cost-requires-2-clause-cost
cost_with-cost-requires-2-clause-cost c =
    let same : c.new_tour.new.self ≡ c.args.self.now = search rules in
    subst (λ (d : DraftState). d.cost ≡ cost_of c.args.problem.now (draft_of d)) (sym same) c.requires.cost

pub cost_with-cost-requires-2-clause-unplanned : goal.cost_with-cost-requires-2-clause-unplanned
cost_with-cost-requires-2-clause-unplanned c =
    let p = c.args.problem.now in
    let same : c.new_tour.new.self ≡ c.args.self.now = search rules in
    c.requires.unplanned
    ∙ sym (ap (λ (d : DraftState). unplanned_count p (with_route (draft_of d) c.args.vehicle (course_route c.in_ok-tour.tour))) same
    ∙ ap (λ (r : List ℕ). unplanned_count p (with_route (draft_of c.args.self.now) c.args.vehicle r)) c.in_ok-tour.ensures.route)

pub returns-clause-cost : goal.returns-clause-cost
returns-clause-cost c =
    let p = c.args.problem.now in
    let tour = c.in_ok-tour.tour in
    let same : c.new_tour.new.self ≡ c.args.self.now = search rules in
    c.cost_with-cost-2.ensures
    ∙ (ap (λ (d : DraftState). cost_of p (with_route (draft_of d) c.args.vehicle (course_route tour))) same
    ∙ ap (λ (r : List ℕ). cost_of p (with_route (draft_of c.args.self.now) c.args.vehicle r)) c.in_ok-tour.ensures.route)

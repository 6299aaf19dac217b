-- The route with the request inserted keeps its limits. So with its tour the draft is the plan with the
-- request, which leaves one request fewer out.
use Rattle.std.proofs.Common.{rules, ◌≡◌, ◌-◌, set, sym, ap, subst, ◌∙◌, arith}
use Rattle.plan_types.specs.declared.plans.Cost.{Cost}
use Rattle.route_sched.specs.Cost.{cost_of}
use Rattle.slack_tables.specs.Course.{course_of}
use Rattle.move_ops.specs.Changes.{IsInsertable}
use Rattle.move_ops.specs.Drafts.{draft_of, DraftState, undone}
use Rattle.move_ops.specs.Insertion.{with_request_at}
use Rattle.move_ops.proofs.DraftLemmas.{changed}
use Rattle.move_ops.proofs.PlacementLemmas.{within_tours, given_unplanned, plan_new, tables_new, passes_new, plan_cost}
use Rattle.move_ops.proofs.draft.Draft.put.Goals as goal

pub overflow_cast-vehicle : goal.overflow_cast-vehicle
overflow_cast-vehicle c =
    let at = subst (IsInsertable c.args.problem.now c.args.pins.now.routes (draft_of c.args.self.now) c.args.request.now) (sym c.place.view_is) c.requires.put in
    let low = at.few in
    omega arith

pub set_route-requires-clause-from_one : goal.set_route-requires-clause-from_one
set_route-requires-clause-from_one c =
    let at = subst (IsInsertable c.args.problem.now c.args.pins.now.routes (draft_of c.args.self.now) c.args.request.now) (sym c.place.view_is) c.requires.put in
    at.from

pub set_route-requires-clause-within : goal.set_route-requires-clause-within
set_route-requires-clause-within c =
    let at = subst (IsInsertable c.args.problem.now c.args.pins.now.routes (draft_of c.args.self.now) c.args.request.now) (sym c.place.view_is) c.requires.put in
    within_tours c.args.problem.now c.args.pins.now.routes c.args.self.now c.requires.is c.args.request.now _ at
    c.self.inside.tours.items
    (search rules) c.route.result.now c.route.ensures

pub set_route-requires-clause-unplanned : goal.set_route-requires-clause-unplanned
set_route-requires-clause-unplanned c =
    let at = subst (IsInsertable c.args.problem.now c.args.pins.now.routes (draft_of c.args.self.now) c.args.request.now) (sym c.place.view_is) c.requires.put in
    let tv : c.self.inside.tours.items ≡ c.args.self.now.tours = search rules in
    let count = given_unplanned c.args.problem.now c.args.pins.now.routes c.args.self.now c.requires.is c.args.request.now _
    at c.self.inside.tours.items tv c.route.result.now c.route.ensures
    c.insert_into.new.new.items c.in_ok-insert_into.ensures c.deref.result.now c.deref.ensures.value in
    let held : c.self.inside.cost ≡ c.args.self.now.cost = search rules in
    let left = ap (λ (k : Cost). k.unplanned) held in
    omega arith

pub returns-clause-is : goal.returns-clause-is
returns-clause-is c =
    let p = c.args.problem.now in
    let at = subst (IsInsertable c.args.problem.now c.args.pins.now.routes (draft_of c.args.self.now) c.args.request.now) (sym c.place.view_is) c.requires.put in
    let tv : c.self.inside.tours.items ≡ c.args.self.now.tours = search rules in
    let new = c.self-2.inside in
    let is_set = c.in_ok-self-inside.ensures.set in
    let tours : new.tours.items ≡ set c.self.inside.tours.items (c.place.inside.vehicle - 1) (course_of p c.deref.result.now) =
    ap (λ (d : DraftState). d.tours) c.self-2.view_is ∙ is_set.tours in
    changed p c.args.pins.now.routes c.args.self.now
    (record {
      tours = new.tours.items;
      log = new.log.items;
      pinned = new.pinned.items;
      cost = c.in_ok-self-inside.field-0;
      base_cost = new.base_cost;
    })
    c.requires.is
    (ap (λ (d : DraftState). undone d.tours d.log) c.self-2.view_is ∙ (is_set.base ∙ ap (λ (d : DraftState). undone d.tours d.log) c.self.view_is))
    (ap (λ (d : DraftState). d.pinned) c.self-2.view_is ∙ (is_set.pinned ∙ ap (λ (d : DraftState). d.pinned) c.self.view_is))
    (ap (λ (d : DraftState). d.base_cost) c.self-2.view_is ∙ (is_set.base_cost ∙ ap (λ (d : DraftState). d.base_cost) c.self.view_is))
    (passes_new p c.args.pins.now.routes c.args.self.now c.requires.is c.args.request.now _ at
    c.self.inside.tours.items tv c.route.result.now c.route.ensures
    c.insert_into.new.new.items c.in_ok-insert_into.ensures c.deref.result.now c.deref.ensures.value is_set.stops new.tours.items tours)
    (tables_new p c.args.pins.now.routes c.args.self.now c.requires.is c.args.request.now _ at
    c.self.inside.tours.items tv c.route.result.now c.route.ensures
    c.insert_into.new.new.items c.in_ok-insert_into.ensures c.deref.result.now c.deref.ensures.value is_set.stops new.tours.items tours)
    (c.in_ok-self-inside.ensures.cost
    ∙ ap (cost_of p)
    (plan_cost p c.args.pins.now.routes c.args.self.now c.requires.is c.args.request.now _ at
    c.self.inside.tours.items tv c.route.result.now c.route.ensures
    c.insert_into.new.new.items c.in_ok-insert_into.ensures c.deref.result.now c.deref.ensures.value is_set.stops new.tours.items tours))

pub returns-clause-draft : goal.returns-clause-draft
returns-clause-draft c =
    let p = c.args.problem.now in
    let at = subst (IsInsertable c.args.problem.now c.args.pins.now.routes (draft_of c.args.self.now) c.args.request.now) (sym c.place.view_is) c.requires.put in
    let new = c.self-2.inside in
    let is_set = c.in_ok-self-inside.ensures.set in
    let tours : new.tours.items ≡ set c.self.inside.tours.items (c.place.inside.vehicle - 1) (course_of p c.deref.result.now) =
    ap (λ (d : DraftState). d.tours) c.self-2.view_is ∙ is_set.tours in
    (plan_new p c.args.pins.now.routes c.args.self.now c.requires.is c.args.request.now _ at c.self.inside.tours.items
    (search rules) c.route.result.now c.route.ensures
    c.insert_into.new.new.items c.in_ok-insert_into.ensures c.deref.result.now c.deref.ensures.value is_set.stops new.tours.items tours)
    ∙ ap (with_request_at (draft_of c.args.self.now) c.args.request.now) c.place.view_is

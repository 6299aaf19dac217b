-- With the request inserted at this place, the route has current, distinct stops. If the route is feasible
-- alone, the request can be inserted at this place, else the plan fails.
use Rattle.std.proofs.Common.{rules, ◌≡◌, true, ap, subst, ◌∙◌}
use Rattle.route_sched.specs.Route.{AreDistinctStops}
use Rattle.plan_audit.specs.Passes.{feasible_alone}
use Rattle.move_ops.specs.Drafts.{draft_of}
use Rattle.move_ops.specs.Insertion.{is_place_of}
use Rattle.move_ops.proofs.ValidPlaceLemmas.{requested_once, feasible_put, not_put}
use Rattle.move_ops.proofs.draft.Draft.can_insert.Goals as goal

pub is_feasible-requires-clause-once : goal.is_feasible-requires-clause-once
is_feasible-requires-clause-once c =
    let p = c.args.problem.now in
    let routes = draft_of c.args.self.now in
    let place : is_place_of c.args.pins.now.routes routes c.args.request.now c.args.place ≡ true = search rules in
    subst (AreDistinctStops p) (search rules)
    (requested_once c.requests_are_found_by_stop.ensures c.requests_are_stored_by_name.ensures c.passing_is_local.ensures
    c.feasible_alone_decides_feasibility.ensures c.numbers_are_below_next_number.ensures.stops
    p c.args.pins.now.routes routes c.requires.is.valid c.requires.is.draft c.args.request.now c.requires.request c.args.place (search rules) place)

pub returns-clause-put : goal.returns-clause-put
returns-clause-put c =
    let p = c.args.problem.now in
    let routes = draft_of c.args.self.now in
    let place : is_place_of c.args.pins.now.routes routes c.args.request.now c.args.place ≡ true = search rules in
    feasible_put c.requests_are_found_by_stop.ensures c.requests_are_stored_by_name.ensures c.passing_is_local.ensures
    c.feasible_alone_decides_feasibility.ensures c.numbers_are_below_next_number.ensures.stops
    p c.args.pins.now.routes routes c.requires.is.valid c.requires.is.draft c.args.request.now c.requires.request c.args.place
    (search rules) place c.is_feasible.result (c.is_feasible.ensures ∙ ap (feasible_alone p) (search rules))

pub returns-clause-none : goal.returns-clause-none
returns-clause-none c =
    let p = c.args.problem.now in
    let routes = draft_of c.args.self.now in
    let place : is_place_of c.args.pins.now.routes routes c.args.request.now c.args.place ≡ true = search rules in
    not_put c.requests_are_found_by_stop.ensures c.requests_are_stored_by_name.ensures c.passing_is_local.ensures
    c.feasible_alone_decides_feasibility.ensures c.numbers_are_below_next_number.ensures.stops
    p c.args.pins.now.routes routes c.requires.is.valid c.requires.is.draft c.args.request.now c.requires.request c.args.place
    (search rules) place c.is_feasible.result (c.is_feasible.ensures ∙ ap (feasible_alone p) (search rules))

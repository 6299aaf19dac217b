-- The changed routes have current, distinct stops. If they are feasible alone, they make the plan with the two
-- requests exchanged; otherwise there is no such plan.
use Rattle.std.proofs.Common.{rules, ◌≡◌, ◌≤◌, length, ℕ, List, true, false, All, Some, map, sym, ap, subst, ◌∙◌}
use Rattle.slack_tables.specs.Course.{Course}
use Rattle.move_ops.specs.Moves.{counterpart}
use Rattle.move_ops.specs.Changes.{AreChanges}
use Rattle.move_ops.specs.Drafts.{DraftState, draft_of}
use Rattle.move_ops.specs.declared.changes.Change.{Change}
use Rattle.move_ops.proofs.ApplyLemmas.{vehicles_within}
use Rattle.move_ops.proofs.ExchangeLemmas.{changes_once, exchange_is, exchange_made}
use Rattle.move_ops.proofs.draft.Draft.exchange_changes.Goals as goal

pub are_all_feasible-requires-clause-once : goal.are_all_feasible-requires-clause-once
are_all_feasible-requires-clause-once c =
    let p = c.args.problem.now in
    let r = c.in-Some.first in
    let s = c.in-Some-request_named.second in
    changes_once c.requests_are_found_by_stop.ensures c.passing_is_local.ensures c.plans_are_disjoint_routes.ensures c.feasible_alone_decides_feasibility.ensures
    p c.args.pins.now.routes c.args.self.now c.requires
    c.args.a c.args.b c.if-a-b.false r s (search rules) (search rules)
    (search rules) c.in_ok-changes.changes.items c.in_ok-changes.ensures c.deref-2.result.now c.deref-2.ensures.value

pub are_all_feasible-requires-clause-within : goal.are_all_feasible-requires-clause-within
are_all_feasible-requires-clause-within c =
    let d = c.args.self.now in
    let routes = draft_of d in
    let r = c.in-Some.first in
    let s = c.in-Some-request_named.second in
    let others : List (List ℕ) = map (map (counterpart r s)) routes in
    let are : AreChanges routes others c.in_ok-changes.changes.items = c.in_ok-changes.ensures in
    let tours : c.deref.result.now ≡ d.tours = c.deref.ensures.value ∙ ap (λ (x : DraftState). x.tours) c.self.view_is in
    subst (λ (t : List Course). All (λ (x : Change). (1 ≤ x.vehicle) × (x.vehicle ≤ length t)) c.deref-2.result.now) (sym tours)
    (subst (λ (l : List Change). All (λ (x : Change). (1 ≤ x.vehicle) × (x.vehicle ≤ length d.tours)) l) (sym c.deref-2.ensures.value)
    (vehicles_within d.tours c.in_ok-changes.changes.items are.within))

pub returns-then-not-are_all_feasible-clause-routes : goal.returns-then-not-are_all_feasible-clause-routes
returns-then-not-are_all_feasible-clause-routes c =
    let p = c.args.problem.now in
    let r = c.in-Some.first in
    let s = c.in-Some-request_named.second in
    exchange_is c.requests_are_found_by_stop.ensures c.passing_is_local.ensures c.plans_are_disjoint_routes.ensures c.feasible_alone_decides_feasibility.ensures
    p c.args.pins.now.routes c.args.self.now c.requires
    c.args.a c.args.b c.if-a-b.false r s (search rules) (search rules)
    (search rules) c.in_ok-changes.changes.items c.in_ok-changes.ensures c.deref-2.result.now c.deref-2.ensures.value false
    (sym (search rules) ∙ c.are_all_feasible.ensures)

pub returns-clause-routes : goal.returns-clause-routes
returns-clause-routes c =
    let p = c.args.problem.now in
    let r = c.in-Some.first in
    let s = c.in-Some-request_named.second in
    let are : AreChanges (draft_of c.args.self.now)
    (map (map (counterpart r s)) (draft_of c.args.self.now)) c.in_ok-changes.changes.items =
    c.in_ok-changes.ensures in
    ap (λ (l : List (List ℕ)). Some l) are.plan
    ∙ exchange_is c.requests_are_found_by_stop.ensures c.passing_is_local.ensures c.plans_are_disjoint_routes.ensures
    c.feasible_alone_decides_feasibility.ensures p c.args.pins.now.routes c.args.self.now c.requires
    c.args.a c.args.b c.if-a-b.false r s (search rules) (search rules)
    (search rules) c.in_ok-changes.changes.items c.in_ok-changes.ensures c.deref-2.result.now c.deref-2.ensures.value true
    (sym (search rules) ∙ c.are_all_feasible.ensures)

pub returns-clause-change : goal.returns-clause-change
returns-clause-change c =
    let p = c.args.problem.now in
    let r = c.in-Some.first in
    let s = c.in-Some-request_named.second in
    exchange_made c.requests_are_found_by_stop.ensures c.passing_is_local.ensures c.plans_are_disjoint_routes.ensures
    c.feasible_alone_decides_feasibility.ensures p c.args.pins.now.routes c.args.self.now c.requires
    c.args.a c.args.b c.if-a-b.false r s (search rules) (search rules)
    (search rules) c.in_ok-changes.changes.items c.in_ok-changes.ensures c.deref-2.result.now c.deref-2.ensures.value
    c.requests_are_stored_by_name.ensures
    (sym (search rules) ∙ c.are_all_feasible.ensures)

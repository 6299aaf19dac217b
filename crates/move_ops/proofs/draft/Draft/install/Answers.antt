-- The plan with the changed routes passes, so its length is small. With its cost the changed draft is one of the
-- same problem and pins.
use Rattle.std.proofs.Common.{rules, ◌≡◌, ◌≤◌, ℕ, List, length, true, sym, ap, subst, ◌∙◌}
use Rattle.std.specs.List.{AllByRecursion}
use Rattle.std.proofs.lemmas.List.{length-map}
use Rattle.std.proofs.lemmas.List.Elements.{recursion_from_All}
use Rattle.move_ops.specs.declared.changes.Change.{Change}
use Rattle.move_ops.proofs.TourLemmas.{within_from}
use Rattle.route_sched.specs.Cost.{cost_of, unplanned_count}
use Rattle.plan_types.specs.declared.plans.Cost.{Cost}
use Rattle.plan_audit.specs.Passes.{passes}
use Rattle.slack_tables.specs.Course.{course_route}
use Rattle.move_ops.specs.Changes.{changes_of, with_routes}
use Rattle.move_ops.specs.Tables.{plan_of}
use Rattle.move_ops.specs.Drafts.{draft_of}
use Rattle.move_ops.proofs.InsertionCosts.{same_cost}
use Rattle.move_ops.proofs.UnplannedCountLemmas.{plan_small}
use Rattle.move_ops.proofs.DraftLemmas.{changed}
use Rattle.move_ops.proofs.draft.Draft.install.Goals as goal

pub set_tours-vehicles-requires-clause-small : goal.set_tours-vehicles-requires-clause-small
set_tours-vehicles-requires-clause-small c =
    plan_small c.numbers_are_below_next_number.ensures.stops c.passing_is_local.ensures c.args.problem.now c.requires.is.valid c.args.pins.now.routes
    (with_routes (draft_of c.args.self.now) (changes_of c.args.tours.items)) c.requires.change.passes

pub set_tours-vehicles-requires-clause-within : goal.set_tours-vehicles-requires-clause-within
set_tours-vehicles-requires-clause-within c =
    let d = c.args.self.now in
    within_from (length d.tours) c.args.tours.items
    (subst (λ n. AllByRecursion (λ (x : Change). (1 ≤ x.vehicle) × (x.vehicle ≤ n)) (changes_of c.args.tours.items)) (length-map d.tours course_route)
    (recursion_from_All (λ (x : Change). (1 ≤ x.vehicle) × (x.vehicle ≤ length (draft_of d))) (changes_of c.args.tours.items) c.requires.change.within))

pub returns-clause-is : goal.returns-clause-is
returns-clause-is c =
    let p = c.args.problem.now in
    let new = c.self.inside in
    let plan : plan_of new.tours.items ≡ with_routes (draft_of c.args.self.now) (changes_of c.args.tours.items) = search rules in
    let cost : Cost = record { unplanned = c.args.unplanned; vehicles = c.set_tours-vehicles.result.0; distance = c.set_tours-vehicles.result.1 } in
    let left : c.args.unplanned ≡ unplanned_count p (plan_of new.tours.items) = c.requires.change.unplanned ∙ ap (unplanned_count p) (sym plan) in
    changed p c.args.pins.now.routes c.args.self.now
    (record { tours = new.tours.items; log = new.log.items; pinned = new.pinned.items; cost = cost; base_cost = new.base_cost })
    c.requires.is (search rules) (search rules) (search rules)
    (subst (λ (l : List (List ℕ)). passes p c.args.pins.now.routes l ≡ true) (sym plan) c.requires.change.passes)
    (search rules)
    (same_cost cost (cost_of p (plan_of new.tours.items)) left (search rules) (search rules))

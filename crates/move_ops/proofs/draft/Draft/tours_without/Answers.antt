-- The next route without the requests has current, distinct stops and whole pairs. If it isn't feasible alone,
-- not all routes are; otherwise its tour is appended.
use Rattle.std.proofs.Common.{rules, ◌≡◌, ◌∙◌, true, ℕ, List, Option, None, Some, get_or, sym, ap, subst}
use Rattle.route_sched.specs.Route.{AreDistinctStops}
use Rattle.plan_audit.specs.Passes.{feasible_alone}
use Rattle.slack_tables.specs.Course.{Course}
use Rattle.move_ops.specs.Changes.{removals, IsTourIfFeasible}
use Rattle.move_ops.specs.Drafts.{draft_of}
use Rattle.move_ops.specs.Insertion.{route_of}
use Rattle.move_ops.specs.WholePairs.{are_paired}
use Rattle.move_ops.proofs.RemovalLemmas.{left_of, next, next_at, next_below, next_has}
use Rattle.move_ops.proofs.TourLemmas.{all_broken, all_more, tours_more}
use Rattle.move_ops.proofs.draft.Draft.tours_without.Goals as goal

pub feasible_tour-requires-clause-once : goal.feasible_tour-requires-clause-once
feasible_tour-requires-clause-once c =
    let p = c.args.problem.now in
    let old = draft_of c.args.self.now in
    let k = c.loop-vehicle.vehicle-index in
    let kept : List ℕ → List ℕ = left_of p c.args.names.now old c.args.vehicles.now k c.loop-vehicle-test.true in
    let route : c.deref.result.now ≡ kept (route_of old (get_or c.args.vehicles.now k 0)) =
    c.deref.ensures.value ∙ (c.in_ok-keep_others.ensures ∙ ap kept (search rules)) in
    next_has p c.args.names.now old c.args.vehicles.now k c.loop-vehicle-test.true (AreDistinctStops p) c.requires.once c.deref.result.now route

pub feasible_tour-requires-clause-pairs : goal.feasible_tour-requires-clause-pairs
feasible_tour-requires-clause-pairs c =
    let p = c.args.problem.now in
    let old = draft_of c.args.self.now in
    let k = c.loop-vehicle.vehicle-index in
    let kept : List ℕ → List ℕ = left_of p c.args.names.now old c.args.vehicles.now k c.loop-vehicle-test.true in
    let route : c.deref.result.now ≡ kept (route_of old (get_or c.args.vehicles.now k 0)) =
    c.deref.ensures.value ∙ (c.in_ok-keep_others.ensures ∙ ap kept (search rules)) in
    next_has p c.args.names.now old c.args.vehicles.now k c.loop-vehicle-test.true (λ l. are_paired p l ≡ true) c.requires.pairs c.deref.result.now route

pub returns-in_default-clause-tours : goal.returns-in_default-clause-tours
returns-in_default-clause-tours c =
    let p = c.args.problem.now in
    let old = draft_of c.args.self.now in
    let k = c.loop-vehicle.vehicle-index in
    let kept : List ℕ → List ℕ = left_of p c.args.names.now old c.args.vehicles.now k c.loop-vehicle-test.true in
    let route : c.deref.result.now ≡ kept (route_of old (get_or c.args.vehicles.now k 0)) =
    c.deref.ensures.value ∙ (c.in_ok-keep_others.ensures ∙ ap kept (search rules)) in
    let broken : IsTourIfFeasible p c.deref.result.now None = subst
    (λ (o : Option Course). IsTourIfFeasible p c.deref.result.now o) c.in_default.is c.in_ok-tour.ensures.tour in
    sym c.loop-vehicle.invariant.left
    ∙ all_broken (λ y. feasible_alone p y.route) (removals p c.args.names.now old c.args.vehicles.now) k
    (next p c.args.names.now old c.args.vehicles.now k c.loop-vehicle-test.true)
    (next_at p c.args.names.now old c.args.vehicles.now k c.loop-vehicle-test.true)
    (next_below p c.args.names.now old c.args.vehicles.now k c.loop-vehicle-test.true)
    (ap (feasible_alone p) (sym route) ∙ broken)

pub loop-vehicle-preserved : goal.loop-vehicle-preserved
loop-vehicle-preserved c =
    let p = c.args.problem.now in
    let old = draft_of c.args.self.now in
    let k = c.loop-vehicle.vehicle-index in
    let kept : List ℕ → List ℕ = left_of p c.args.names.now old c.args.vehicles.now k c.loop-vehicle-test.true in
    let route : c.deref.result.now ≡ kept (route_of old (get_or c.args.vehicles.now k 0)) =
    c.deref.ensures.value ∙ (c.in_ok-keep_others.ensures ∙ ap kept (search rules)) in
    let is = c.loop-vehicle.invariant in
    let found : IsTourIfFeasible p c.deref.result.now (Some c.in-Some.tour) =
    subst (λ (o : Option Course). IsTourIfFeasible p c.deref.result.now o) c.in-Some.is c.in_ok-tour.ensures.tour in
    let made = subst (λ (r : List ℕ). IsTourIfFeasible p r (Some c.in-Some.tour)) route found in
    let cs = removals p c.args.names.now old c.args.vehicles.now in
    let x = next p c.args.names.now old c.args.vehicles.now k c.loop-vehicle-test.true in
    let at = next_at p c.args.names.now old c.args.vehicles.now k c.loop-vehicle-test.true in
    let below = next_below p c.args.names.now old c.args.vehicles.now k c.loop-vehicle-test.true in
    record {
      tours = tours_more p cs k x c.loop-vehicle.tours.items c.push.new.self.items c.in-Some.tour at below made.1 made.2 c.in_ok-push.ensures.items is.tours;
      left = all_more (λ y. feasible_alone p y.route) cs k x at below made.0 ∙ is.left;
      same = c.in_ok-tour.ensures.same ∙ is.same;
    }

-- Routes without the requests' stops have current, distinct stops and whole pairs. If they are feasible alone
-- they make the plan without the requests.
use Rattle.std.proofs.Common.{ℕ, Vec}
use Rattle.std.specs.declared.alloc.Global.{Global}
use Rattle.std.proofs.lemmas.Option.{MatchOption-at_some}
use Rattle.std.proofs.lemmas.Result.{IfOk-weaker}
use Rattle.slack_tables.specs.Course.{Course}
use Rattle.move_ops.specs.Changes.{AreVehiclesToChange}
use Rattle.move_ops.specs.Drafts.{draft_of}
use Rattle.move_ops.proofs.RemovalLemmas.{removals_once, removals_paired, removal_routes, removal_tours}
use Rattle.move_ops.proofs.draft.Draft.removing.Goals as goal

pub tours_without-requires-clause-once : goal.tours_without-requires-clause-once
tours_without-requires-clause-once c =
    let are = MatchOption-at_some _ (λ vs. AreVehiclesToChange c.args.problem.now c.args.pins.now.routes (draft_of c.args.self.now) c.args.names.now vs.items)
    c.in-Some.vehicles c.in-Some.is c.in_ok-vehicles.ensures in
    removals_once c.requests_are_found_by_stop.ensures c.requests_are_stored_by_name.ensures c.passing_is_local.ensures
    c.plans_are_disjoint_routes.ensures c.feasible_alone_decides_feasibility.ensures c.args.problem.now c.args.pins.now.routes c.args.self.now c.requires
    c.args.names.now
    are.movable c.in-Some.vehicles.items c.deref.result.now c.deref.ensures.value are.within
    are.found

pub tours_without-requires-clause-pairs : goal.tours_without-requires-clause-pairs
tours_without-requires-clause-pairs c =
    let are = MatchOption-at_some _ (λ vs. AreVehiclesToChange c.args.problem.now c.args.pins.now.routes (draft_of c.args.self.now) c.args.names.now vs.items)
    c.in-Some.vehicles c.in-Some.is c.in_ok-vehicles.ensures in
    removals_paired c.requests_are_found_by_stop.ensures c.requests_are_stored_by_name.ensures c.passing_is_local.ensures
    c.plans_are_disjoint_routes.ensures c.feasible_alone_decides_feasibility.ensures c.args.problem.now c.args.pins.now.routes c.args.self.now c.requires
    c.args.names.now
    are.movable c.in-Some.vehicles.items c.deref.result.now c.deref.ensures.value are.within
    are.found

pub returns-clause-routes : goal.returns-clause-routes
returns-clause-routes c =
    let are = MatchOption-at_some _ (λ vs. AreVehiclesToChange c.args.problem.now c.args.pins.now.routes (draft_of c.args.self.now) c.args.names.now vs.items)
    c.in-Some.vehicles c.in-Some.is c.in_ok-vehicles.ensures in
    IfOk-weaker c.tours_without.result _ _
    (removal_routes c.requests_are_found_by_stop.ensures c.requests_are_stored_by_name.ensures c.passing_is_local.ensures
    c.plans_are_disjoint_routes.ensures c.feasible_alone_decides_feasibility.ensures c.args.problem.now c.args.pins.now.routes c.args.self.now c.requires
    c.args.names.now
    are.movable c.in-Some.vehicles.items c.deref.result.now c.deref.ensures.value are.within
    are.found
    (λ (ts : Vec (ℕ × Course) Global). ts.items)) c.tours_without.ensures.tours

pub returns-clause-tours : goal.returns-clause-tours
returns-clause-tours c =
    let are = MatchOption-at_some _ (λ vs. AreVehiclesToChange c.args.problem.now c.args.pins.now.routes (draft_of c.args.self.now) c.args.names.now vs.items)
    c.in-Some.vehicles c.in-Some.is c.in_ok-vehicles.ensures in
    IfOk-weaker c.tours_without.result _ _
    (removal_tours c.requests_are_found_by_stop.ensures c.requests_are_stored_by_name.ensures c.passing_is_local.ensures
    c.plans_are_disjoint_routes.ensures c.feasible_alone_decides_feasibility.ensures c.args.problem.now c.args.pins.now.routes c.args.self.now c.requires
    c.args.names.now
    are.movable c.in-Some.vehicles.items c.deref.result.now c.deref.ensures.value are.within
    are.found
    (λ (ts : Vec (ℕ × Course) Global). ts.items)) c.tours_without.ensures.tours

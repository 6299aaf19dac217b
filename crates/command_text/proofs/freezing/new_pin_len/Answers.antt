-- A job's plan passes the audit, so the stops of the vehicle's route are known and distinct, and there are at
-- most 40,001.
use Rattle.std.proofs.Common.{◌∙◌, ℕ, List, All, sym, ap, subst}
use Rattle.route_sched.specs.Route.{AreDistinctStops}
use Rattle.move_ops.specs.Insertion.{route_of}
use Rattle.command_text.proofs.FreezeLemmas.{few_stops}
use Rattle.command_text.proofs.RouteLemmas.{vehicle_once}
use Rattle.command_text.proofs.freezing.new_pin_len.Goals as goal

pub departed_count-begun-requires : goal.departed_count-begun-requires
departed_count-begun-requires c =
    let p = c.job.inside.problem in
    let routes = c.job.inside.plan.routes in
    let plan = ((c.passing_is_local.ensures p c.job.inside.pins.routes routes).0 c.job.invariant.plan).plan in
    let all : All (AreDistinctStops p) routes = ((c.plans_are_disjoint_routes.ensures p routes).0 plan).0 in
    subst (AreDistinctStops p) (sym (c.route_of-route.ensures ∙ ap (λ (rs : List (List ℕ)). route_of rs c.from-2.result) c.as_slice-2.ensures)) (vehicle_once p routes c.from-2.result all)

pub pin_end-requires : goal.pin_end-requires
pin_end-requires c =
    let p = c.job.inside.problem in
    let routes = c.job.inside.plan.routes in
    let plan = ((c.passing_is_local.ensures p c.job.inside.pins.routes routes).0 c.job.invariant.plan).plan in
    let all : All (AreDistinctStops p) routes = ((c.plans_are_disjoint_routes.ensures p routes).0 plan).0 in
    let once = subst (AreDistinctStops p) (sym (c.route_of-route.ensures ∙ ap (λ (rs : List (List ℕ)). route_of rs c.from-2.result) c.as_slice-2.ensures)) (vehicle_once p routes c.from-2.result all) in
    record { few = few_stops p c.route_of-route.result.now c.job.invariant.problem once }

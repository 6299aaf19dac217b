-- The first stops of a vehicle's route are current and distinct, since the plan passes
use Rattle.std.proofs.Common.{List, refl, ap, ◌∙◌, ℕ}
use Rattle.move_ops.specs.Insertion.{route_of}
use Rattle.command_core.proofs.ListLemmas.{prefix_of_route_once}
use Rattle.command_core.proofs.acceptance.pin_refusal.Goals as goal

pub is_feasible-requires : goal.is_feasible-requires
is_feasible-requires c =
    let job = c.job.inside in
    prefix_of_route_once c.passing_is_local.ensures c.plans_are_disjoint_routes.ensures job.problem job.pins.routes job.plan.routes c.job.invariant.plan c.args.vehicle
    c.args.stops _ c.route_of-route.result.now
    refl (c.route_of-route.ensures ∙ (ap (route_of c.as_slice.result.now) c.from.ensures ∙ ap (λ (l : List (List ℕ)). route_of l c.args.vehicle) c.as_slice.ensures))

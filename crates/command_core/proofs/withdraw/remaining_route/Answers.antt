-- A route without the request's stops has current, distinct stops in the problem without the request
use Rattle.std.proofs.Common.{rules, ◌≡◌, ℕ, List, sym, subst}
use Rattle.plan_types.specs.Instance.{Instance, without_request}
use Rattle.route_sched.specs.Route.{AreDistinctStops}
use Rattle.command_core.specs.Effects.{route_without}
use Rattle.command_core.proofs.WithdrawLemmas.{without_once}
use Rattle.command_core.proofs.withdraw.remaining_route.Goals as goal

pub is_feasible-requires : goal.is_feasible-requires
is_feasible-requires c =
    let p = c.args.problem.now in
    let same : c.as_slice-3.result.now ≡ route_without p c.args.name c.args.route.now = search rules in
    let here : AreDistinctStops (without_request p c.args.name)
    (route_without p c.args.name c.args.route.now) = without_once c.take_removes_one_request.ensures.others p c.args.name c.requires.valid c.args.route.now
    c.requires.distinct in
    subst (λ (q : Instance). AreDistinctStops q c.as_slice-3.result.now) (sym c.requires.taken) (subst (λ (l : List ℕ). AreDistinctStops (without_request p c.args.name) l) (sym same) here)

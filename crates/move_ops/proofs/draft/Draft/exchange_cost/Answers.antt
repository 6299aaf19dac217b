-- An exchange of two singles in different routes changes only the legs at their places, so the cost computed
-- from these is that of the exchanged plan.
use Rattle.std.proofs.Common.{rules, ◌≡◌}
use Rattle.std.proofs.lemmas.Option.{IfSome_then}
use Rattle.plan_types.specs.declared.requests.Kind.TheVariants.{Vrp}
use Rattle.move_ops.proofs.MoveCostLemmas.{exchanged_cost}
use Rattle.move_ops.proofs.draft.Draft.exchange_cost.Goals as goal

pub returns : goal.returns
returns c =
    let p = c.args.problem.now in
    let d = c.args.self.now in
    let vrp : c.args.problem.now.kind ≡ Vrp = search rules in
    IfSome_then c.cost_with_legs.result c.cost_with_legs.ensures
    (λ cost moved. exchanged_cost c.requests_are_found_by_stop.ensures c.requests_are_stored_by_name.ensures c.passing_is_local.ensures p
    c.args.pins.now.routes d c.requires
    c.args.a c.args.b c.in_ok-first.first c.in_ok-second.second c.in_ok-first.ensures c.in_ok-second.ensures
    (search rules) vrp _ _ cost moved (search rules) (search rules))

-- Two routes with their ends exchanged differ only by the legs across the cuts, so the cost computed from these
-- is that of the crossed plan.
use Rattle.std.proofs.Common.{rules, ◌≡◌}
use Rattle.std.proofs.lemmas.Option.{IfSome_then}
use Rattle.plan_types.specs.declared.requests.Kind.TheVariants.{Vrp}
use Rattle.move_ops.proofs.MoveCostLemmas.{crossed_cost}
use Rattle.move_ops.proofs.draft.Draft.cross_cost.Goals as goal

pub returns : goal.returns
returns c =
    let p = c.args.problem.now in
    let d = c.args.self.now in
    let vrp : c.args.problem.now.kind ≡ Vrp = search rules in
    IfSome_then c.cost_with_legs.result c.cost_with_legs.ensures
    (λ cost moved. crossed_cost p c.args.pins.now.routes d c.requires vrp _ _ cost moved c.passing_is_local.ensures c.args.a
    c.args.a_cut c.args.b c.args.b_cut
    (search rules) (search rules) (search rules) (search rules))

-- The tour's greatest demand replaces that of its vehicle in the list; a list without this vehicle is unchanged.
use Rattle.std.proofs.Common.{rules, ◌≡◌, ◌-◌, ℤ, ap, arith, length, set, subst, sym, w64}
use mir.Val.{SFits}
use Rattle.std.specs.Vec.{vec_len}
use Rattle.std.proofs.lemmas.Int.{to_z-of_z}
use Rattle.std.proofs.lemmas.List.{set_past}
use Rattle.slack_tables.specs.Course.{Course}
use Rattle.slack_tables.specs.FitsNowhere.{IsMaxDemand}
use Rattle.move_ops.proofs.max_demands.set_max_demand.Goals as goal

pub returns-then-index-len : goal.returns-then-index-len
returns-then-index-len c =
    let fits : SFits w64 c.max_demand-max_demand.result = search rules in (
      c.max_demand-max_demand.result,
      subst (λ (q : Course). IsMaxDemand q c.max_demand-max_demand.result) c.table.ensures c.max_demand-max_demand.ensures,
      ap (λ (x : ℤ). set c.args.max_demands.now.items (c.args.vehicle - 1) x) (to_z-of_z w64 c.max_demand-max_demand.result fits),
    )

pub returns-else-index-len : goal.returns-else-index-len
returns-else-index-len c =
    let max_demands = c.args.max_demands.now.items in
    let long : length max_demands ≡ vec_len c.args.max_demands.now = search rules in (
      c.max_demand-max_demand.result,
      subst (λ (q : Course). IsMaxDemand q c.max_demand-max_demand.result) c.table.ensures c.max_demand-max_demand.ensures,
      sym (set_past max_demands (c.args.vehicle - 1) c.max_demand-max_demand.result (let less = c.if-index-len.false in let len = c.len.ensures in omega arith)),
    )

-- The greatest demand for one more tour is appended.
use Rattle.std.proofs.Common.{rules, ◌≡◌, ◌++◌, ◌∷◌, [], ◌∙◌, ℤ, Some, arith, ap, length, length-append, refl, slice_get, subst, sym, w64}
use mir.Val.{SFits}
use Rattle.std.proofs.lemmas.Int.{to_z-of_z}
use Rattle.std.proofs.lemmas.Option.{slice_get_read}
use Rattle.slack_tables.specs.Course.{Course}
use Rattle.slack_tables.specs.FitsNowhere.{IsMaxDemand}
use Rattle.move_ops.specs.MaxDemands.{AreMaxDemands}
use Rattle.move_ops.proofs.MaxDemandLemmas.{push_room}
use Rattle.move_ops.proofs.max_demands.max_demands_of.Goals as goal

pub loop-index-preserved : goal.loop-index-preserved
loop-index-preserved c =
    let tours = c.args.tours.now in
    let max_demands = c.loop-index.max_demands.items in
    let tour = c.index-tours-index.result in
    let fits : SFits w64 c.max_demand.result = search rules in
    let more : c.push.new.self.items ≡ max_demands ++ c.max_demand.result ∷ [] =
    c.in_ok-push.ensures.items ∙ ap (λ (x : ℤ). max_demands ++ x ∷ []) (to_z-of_z w64 c.max_demand.result fits) in
    let at = slice_get_read tours (length tours) c.loop-index.index tour refl (omega arith) c.index-tours-index.is in
    let max_demand = subst (λ (q : Course). IsMaxDemand q c.max_demand.result) c.table.ensures c.max_demand.ensures in
    record {
      count = ap length more ∙ (let long = length-append max_demands (c.max_demand.result ∷ []) in let count = c.loop-index.invariant.count in omega arith);
      max_demands =
          subst (AreMaxDemands tours) (sym more)
          (push_room tours max_demands tour c.max_demand.result c.loop-index.invariant.max_demands
          (subst (λ n. slice_get tours n ≡ Some tour) (sym c.loop-index.invariant.count) at) max_demand);
    }

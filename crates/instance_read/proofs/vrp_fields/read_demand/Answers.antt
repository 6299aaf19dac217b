-- A line of the demand section has a node and its demand if both are within their limits.
use Rattle.std.proofs.Common.{ℤ, ◌∷◌, [], ap, sym, subst, ◌∙◌, get_or, pos, w32, rules, arith, refl, Some}
use Rattle.std.proofs.lemmas.Int.{to_z-of_z}
use Rattle.std.specs.Int.RustNames.{unsigned_abs}
use Rattle.std.specs.Prelude.{FitsSigned}
use Rattle.text_lines.specs.Words.{words_of}
use Rattle.instance_read.specs.Vrp.{demand_limits}
use Rattle.instance_read.specs.FieldValues.{HasNumbers}
use Rattle.instance_read.proofs.NumberLemmas.{value_is}
use Rattle.instance_read.proofs.VrpFieldLemmas.{node_is, node_none}
use Rattle.instance_read.proofs.vrp_fields.read_demand.Goals as goal

pub returns-clause-read : goal.returns-clause-read
returns-clause-read c =
    let words = words_of c.args.line.now in
    let values = c.in_ok-node.field-0 in
    let limits = demand_limits c.args.nodes in
    let P : ℤ × ℤ → Type 0 = λ l. HasNumbers 2 (l ∷ (pos 0, pos 1000000) ∷ []) words values in
    let h = subst P c.node_limits.ensures c.in_ok-node.ensures in
    let fits : FitsSigned w32 (get_or values 0 (pos 0)) = search rules in
    let demand_fits : FitsSigned w32 (get_or values 1 (pos 0)) = search rules in (
      node_none 2 limits words values refl h,
      node_is 2 c.args.nodes ((pos 0, pos 1000000) ∷ []) words values (omega arith) h
          ∙ ap (λ n. Some (pos n)) (sym (c.unsigned_abs.ensures.value ∙ ap unsigned_abs (to_z-of_z w32 (get_or values 0 (pos 0)) fits))),
      to_z-of_z w32 (get_or values 1 (pos 0)) demand_fits ∙ value_is 2 limits words values h 1 (omega arith),
    )

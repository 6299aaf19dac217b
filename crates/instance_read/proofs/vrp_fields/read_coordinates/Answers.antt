-- A line of the coordinate section has a node and its point if all three numbers are within their limits.
use Rattle.std.proofs.Common.{ℤ, ◌∷◌, [], ap, sym, subst, ◌∙◌, get_or, pos, w32, rules, arith, refl, Some}
use Rattle.std.proofs.lemmas.Int.{to_z-of_z}
use Rattle.std.specs.Int.RustNames.{unsigned_abs}
use Rattle.std.specs.Prelude.{FitsSigned}
use Rattle.text_lines.specs.Words.{words_of}
use Rattle.plan_types.specs.Limits.{IsCoordinate}
use Rattle.instance_read.specs.FieldValues.{HasNumbers}
use Rattle.instance_read.specs.Scales.{coordinate_range, times_ℤ}
use Rattle.instance_read.specs.Vrp.{coordinate_limits}
use Rattle.instance_read.proofs.LimitLemmas.{from_one_to}
use Rattle.instance_read.proofs.NumberLemmas.{value_is}
use Rattle.instance_read.proofs.ScaleLemmas.{coordinate_within}
use Rattle.instance_read.proofs.VrpFieldLemmas.{node_is, node_none}
use Rattle.instance_read.proofs.vrp_fields.read_coordinates.Goals as goal

pub returns-clause-read : goal.returns-clause-read
returns-clause-read c =
    let scale = c.args.scale in
    let words = words_of c.args.line.now in
    let values = c.in_ok-node.field-0 in
    let limits = coordinate_limits scale c.args.nodes in
    let range = c.coordinate_range-coordinate.result in
    let P : ℤ × ℤ → Type 0 = λ l. HasNumbers 3 (l ∷ range ∷ range ∷ []) words values in
    let Q : ℤ × ℤ → Type 0 = λ l. HasNumbers 3 ((pos 1, pos c.args.nodes) ∷ l ∷ l ∷ []) words values in
    let h = subst Q c.coordinate_range-coordinate.ensures (subst P c.node_limits.ensures c.in_ok-node.ensures) in
    let fits : FitsSigned w32 (get_or values 0 (pos 0)) = search rules in
    let x_fits : FitsSigned w32 (get_or values 1 (pos 0)) = search rules in
    let y_fits : FitsSigned w32 (get_or values 2 (pos 0)) = search rules in
    let x = to_z-of_z w32 (get_or values 1 (pos 0)) x_fits ∙ value_is 3 limits words values h 1 (omega arith) in
    let y = to_z-of_z w32 (get_or values 2 (pos 0)) y_fits ∙ value_is 3 limits words values h 2 (omega arith) in (
      node_none 3 limits words values refl h,
      node_is 3 c.args.nodes (coordinate_range scale ∷ coordinate_range scale ∷ []) words values (omega arith) h
          ∙ ap (λ n. Some (pos n)) (sym (c.unsigned_abs.ensures.value ∙ ap unsigned_abs (to_z-of_z w32 (get_or values 0 (pos 0)) fits))),
      cc,
    )

pub returns-clause-within : goal.returns-clause-within
returns-clause-within c =
    let scale = c.args.scale in
    let words = words_of c.args.line.now in
    let values = c.in_ok-node.field-0 in
    let range = c.coordinate_range-coordinate.result in
    let P : ℤ × ℤ → Type 0 = λ l. HasNumbers 3 (l ∷ range ∷ range ∷ []) words values in
    let Q : ℤ × ℤ → Type 0 = λ l. HasNumbers 3 ((pos 1, pos c.args.nodes) ∷ l ∷ l ∷ []) words values in
    let h = subst Q c.coordinate_range-coordinate.ensures (subst P c.node_limits.ensures c.in_ok-node.ensures) in
    let fits : FitsSigned w32 (get_or values 0 (pos 0)) = search rules in
    let x_fits : FitsSigned w32 (get_or values 1 (pos 0)) = search rules in
    let y_fits : FitsSigned w32 (get_or values 2 (pos 0)) = search rules in
    let node = c.unsigned_abs.ensures.value ∙ ap unsigned_abs (to_z-of_z w32 (get_or values 0 (pos 0)) fits) in
    let bounds = from_one_to c.args.nodes (get_or values 0 (pos 0)) (h.1 0 (omega arith)).1 in
    let C : ℤ → Type 0 = λ z. IsCoordinate (times_ℤ scale z) in (
      omega (arith, node, bounds.0),
      omega (arith, node, bounds.1),
      (
        subst C (sym (to_z-of_z w32 (get_or values 1 (pos 0)) x_fits)) (coordinate_within scale (get_or values 1 (pos 0)) (h.1 1 (omega arith)).1),
        subst C (sym (to_z-of_z w32 (get_or values 2 (pos 0)) y_fits)) (coordinate_within scale (get_or values 2 (pos 0)) (h.1 2 (omega arith)).1),
      ),
    )
